-- Types and declarations: small files with their trees, and neighbours that are refused, by computation.
use Rattle.std.proofs.Common.{ℕ, List, [], ◌∷◌, refl}
use Rattle.std.specs.Prelude.{codes}
use Rattle.go_tree.specs.declared.token.Token.{Token}
use Rattle.go_tree.specs.declared.token.TokenKind.TheVariants.{Ident, Int, Text, KwChan, KwConst, KwFunc, KwImport, KwInterface, KwPackage, KwStruct, KwType, Add, Mul, Or, Arrow, Assign, Tilde, Define, Ellipsis, LeftParen, LeftBracket, LeftBrace, Comma, Dot, RightParen, RightBracket, RightBrace, Semicolon, InsertedSemicolon, End}
use Rattle.go_tree.specs.declared.node_kind.NodeKind.TheVariants as k
use Rattle.go_tree.specs.declared.production.Production.TheVariants.{File}
use Rattle.go_tree.specs.Tree.{Tree}
use Rattle.go_tree.specs.Grammar.Trees.Sentence.{Derives, IsSentence}
use Rattle.go_tree.proofs.ExampleLemmas.{at, node, leaf, derives, refused}

-- package p
abbrev pub a_package : List ℕ
a_package = codes "package p\n"

abbrev pub tokens-a_package : List Token
tokens-a_package =
    at KwPackage 0 7 ∷ at Ident 8 9 ∷ at InsertedSemicolon 9 10 ∷ at End 10 10 ∷ []

abbrev pub tree-a_package : Tree
tree-a_package =
    node k.File 0 10 (leaf k.Name 8 9 (codes "p") ∷ [])

pub a_package-derived : Derives a_package File tokens-a_package tree-a_package
a_package-derived = derives a_package tokens-a_package tree-a_package refl

-- package p; const X = Y + 2
abbrev pub a_constant : List ℕ
a_constant = codes "package p\nconst X = Y + 2\n"

abbrev pub tokens-a_constant : List Token
tokens-a_constant =
    at KwPackage 0 7 ∷ at Ident 8 9 ∷ at InsertedSemicolon 9 10 ∷ at KwConst 10 15 ∷ at Ident 16 17
    ∷ at Assign 18 19 ∷ at Ident 20 21 ∷ at Add 22 23 ∷ at Int 24 25 ∷ at InsertedSemicolon 25 26 ∷ at End 26 26
    ∷ []

abbrev pub tree-a_constant : Tree
tree-a_constant =
    node k.File 0 26 (
    leaf k.Name 8 9 (codes "p")
    ∷ node k.ConstDecl 10 25 (
    node k.ConstSpec 16 25 (
    node k.IdentList 16 17 (leaf k.Name 16 17 (codes "X") ∷ [])
    ∷ node k.ExprList 20 25 (
    node k.AddExpr 20 25 (leaf k.Name 20 21 (codes "Y") ∷ leaf k.IntLit 24 25 (codes "2") ∷ [])
    ∷ [])
    ∷ [])
    ∷ [])
    ∷ [])

pub a_constant-derived : Derives a_constant File tokens-a_constant tree-a_constant
a_constant-derived = derives a_constant tokens-a_constant tree-a_constant refl

-- package p; import ( . "a"; b "c" )
abbrev pub imports : List ℕ
imports = codes "package p\nimport ( . \"a\"; b \"c\" )\n"

abbrev pub tokens-imports : List Token
tokens-imports =
    at KwPackage 0 7 ∷ at Ident 8 9 ∷ at InsertedSemicolon 9 10 ∷ at KwImport 10 16 ∷ at LeftParen 17 18
    ∷ at Dot 19 20 ∷ at Text 21 24 ∷ at Semicolon 24 25 ∷ at Ident 26 27 ∷ at Text 28 31 ∷ at RightParen 32 33
    ∷ at InsertedSemicolon 33 34 ∷ at End 34 34 ∷ []

abbrev pub tree-imports : Tree
tree-imports =
    node k.File 0 34 (
    leaf k.Name 8 9 (codes "p")
    ∷ node k.ImportGroup 10 33 (
    node k.ImportSpec 19 24 (node k.DotImport 19 20 [] ∷ leaf k.StringLit 21 24 (codes "\"a\"") ∷ [])
    ∷ node k.ImportSpec 26 31 (leaf k.Name 26 27 (codes "b") ∷ leaf k.StringLit 28 31 (codes "\"c\"") ∷ [])
    ∷ [])
    ∷ [])

pub imports-derived : Derives imports File tokens-imports tree-imports
imports-derived = derives imports tokens-imports tree-imports refl

-- package p; type T struct { a, b []int "t"; *q.E; f func(int, ...T) <-chan int }
abbrev pub types : List ℕ
types = codes "package p\ntype T struct { a, b []int \"t\"; *q.E; f func(int, ...T) <-chan int }\n"

abbrev pub tokens-types : List Token
tokens-types =
    at KwPackage 0 7 ∷ at Ident 8 9 ∷ at InsertedSemicolon 9 10 ∷ at KwType 10 14 ∷ at Ident 15 16
    ∷ at KwStruct 17 23 ∷ at LeftBrace 24 25 ∷ at Ident 26 27 ∷ at Comma 27 28 ∷ at Ident 29 30
    ∷ at LeftBracket 31 32 ∷ at RightBracket 32 33 ∷ at Ident 33 36 ∷ at Text 37 40 ∷ at Semicolon 40 41
    ∷ at Mul 42 43 ∷ at Ident 43 44 ∷ at Dot 44 45 ∷ at Ident 45 46 ∷ at Semicolon 46 47 ∷ at Ident 48 49
    ∷ at KwFunc 50 54 ∷ at LeftParen 54 55 ∷ at Ident 55 58 ∷ at Comma 58 59 ∷ at Ellipsis 60 63 ∷ at Ident 63 64
    ∷ at RightParen 64 65 ∷ at Arrow 66 68 ∷ at KwChan 68 72 ∷ at Ident 73 76 ∷ at RightBrace 77 78
    ∷ at InsertedSemicolon 78 79 ∷ at End 79 79 ∷ []

abbrev pub tree-types : Tree
tree-types =
    node k.File 0 79 (
    leaf k.Name 8 9 (codes "p")
    ∷ node k.TypeDecl 10 78 (
    node k.TypeSpec 15 78 (
    leaf k.Name 15 16 (codes "T")
    ∷ node k.StructType 17 78 (
    node k.Field 26 40 (
    leaf k.Name 26 27 (codes "a")
    ∷ leaf k.Name 29 30 (codes "b")
    ∷ node k.SliceType 31 36 (leaf k.Name 33 36 (codes "int") ∷ [])
    ∷ leaf k.StringLit 37 40 (codes "\"t\"")
    ∷ [])
    ∷ node k.EmbeddedPointer 42 46 (
    node k.SelectorExpr 43 46 (leaf k.Name 43 44 (codes "q") ∷ leaf k.Name 45 46 (codes "E") ∷ [])
    ∷ [])
    ∷ node k.Field 48 76 (
    leaf k.Name 48 49 (codes "f")
    ∷ node k.FuncType 50 76 (
    node k.Signature 54 76 (
    node k.Params 54 65 (
    node k.UnnamedParam 55 58 (leaf k.Name 55 58 (codes "int") ∷ [])
    ∷ node k.UnnamedVariadic 60 64 (leaf k.Name 63 64 (codes "T") ∷ [])
    ∷ [])
    ∷ node k.ArrowExpr 66 76 (node k.ChanType 68 76 (leaf k.Name 73 76 (codes "int") ∷ []) ∷ [])
    ∷ [])
    ∷ [])
    ∷ [])
    ∷ [])
    ∷ [])
    ∷ [])
    ∷ [])

pub types-derived : Derives types File tokens-types tree-types
types-derived = derives types tokens-types tree-types refl

-- package p; type T struct { a[n]int; a[n]; b[<-chan <-chan int, T] }
abbrev pub an_array_or_an_embedded_type : List ℕ
an_array_or_an_embedded_type = codes "package p\ntype T struct { a[n]int; a[n]; b[<-chan <-chan int, T] }\n"

abbrev pub tokens-an_array_or_an_embedded_type : List Token
tokens-an_array_or_an_embedded_type =
    at KwPackage 0 7 ∷ at Ident 8 9 ∷ at InsertedSemicolon 9 10 ∷ at KwType 10 14 ∷ at Ident 15 16
    ∷ at KwStruct 17 23 ∷ at LeftBrace 24 25 ∷ at Ident 26 27 ∷ at LeftBracket 27 28 ∷ at Ident 28 29
    ∷ at RightBracket 29 30 ∷ at Ident 30 33 ∷ at Semicolon 33 34 ∷ at Ident 35 36 ∷ at LeftBracket 36 37
    ∷ at Ident 37 38 ∷ at RightBracket 38 39 ∷ at Semicolon 39 40 ∷ at Ident 41 42 ∷ at LeftBracket 42 43
    ∷ at Arrow 43 45 ∷ at KwChan 45 49 ∷ at Arrow 50 52 ∷ at KwChan 52 56 ∷ at Ident 57 60 ∷ at Comma 60 61
    ∷ at Ident 62 63 ∷ at RightBracket 63 64 ∷ at RightBrace 65 66 ∷ at InsertedSemicolon 66 67 ∷ at End 67 67 ∷ []

abbrev pub tree-an_array_or_an_embedded_type : Tree
tree-an_array_or_an_embedded_type =
    node k.File 0 67 (
    leaf k.Name 8 9 (codes "p")
    ∷ node k.TypeDecl 10 66 (
    node k.TypeSpec 15 66 (
    leaf k.Name 15 16 (codes "T")
    ∷ node k.StructType 17 66 (
    node k.Field 26 33 (
    leaf k.Name 26 27 (codes "a")
    ∷ node k.ArrayType 27 33 (leaf k.Name 28 29 (codes "n") ∷ leaf k.Name 30 33 (codes "int") ∷ [])
    ∷ [])
    ∷ node k.EmbeddedField 35 39 (
    node k.IndexExpr 35 39 (leaf k.Name 35 36 (codes "a") ∷ leaf k.Name 37 38 (codes "n") ∷ [])
    ∷ [])
    ∷ node k.EmbeddedField 41 64 (
    node k.IndexExpr 41 64 (
    leaf k.Name 41 42 (codes "b")
    ∷ node k.ArrowExpr 43 60 (
    node k.ChanType 45 60 (
    node k.ArrowExpr 50 60 (node k.ChanType 52 60 (leaf k.Name 57 60 (codes "int") ∷ []) ∷ [])
    ∷ [])
    ∷ [])
    ∷ leaf k.Name 62 63 (codes "T")
    ∷ [])
    ∷ [])
    ∷ [])
    ∷ [])
    ∷ [])
    ∷ [])

pub an_array_or_an_embedded_type-derived : Derives an_array_or_an_embedded_type File tokens-an_array_or_an_embedded_type tree-an_array_or_an_embedded_type
an_array_or_an_embedded_type-derived = derives an_array_or_an_embedded_type tokens-an_array_or_an_embedded_type tree-an_array_or_an_embedded_type refl

-- package p; type I interface { M(x int) string; ~int | q.T }
abbrev pub an_interface : List ℕ
an_interface = codes "package p\ntype I interface { M(x int) string; ~int | q.T }\n"

abbrev pub tokens-an_interface : List Token
tokens-an_interface =
    at KwPackage 0 7 ∷ at Ident 8 9 ∷ at InsertedSemicolon 9 10 ∷ at KwType 10 14 ∷ at Ident 15 16
    ∷ at KwInterface 17 26 ∷ at LeftBrace 27 28 ∷ at Ident 29 30 ∷ at LeftParen 30 31 ∷ at Ident 31 32
    ∷ at Ident 33 36 ∷ at RightParen 36 37 ∷ at Ident 38 44 ∷ at Semicolon 44 45 ∷ at Tilde 46 47 ∷ at Ident 47 50
    ∷ at Or 51 52 ∷ at Ident 53 54 ∷ at Dot 54 55 ∷ at Ident 55 56 ∷ at RightBrace 57 58
    ∷ at InsertedSemicolon 58 59 ∷ at End 59 59 ∷ []

abbrev pub tree-an_interface : Tree
tree-an_interface =
    node k.File 0 59 (
    leaf k.Name 8 9 (codes "p")
    ∷ node k.TypeDecl 10 58 (
    node k.TypeSpec 15 58 (
    leaf k.Name 15 16 (codes "I")
    ∷ node k.InterfaceType 17 58 (
    node k.MethodElem 29 44 (
    leaf k.Name 29 30 (codes "M")
    ∷ node k.Signature 30 44 (
    node k.Params 30 37 (
    node k.Param 31 36 (leaf k.Name 31 32 (codes "x") ∷ leaf k.Name 33 36 (codes "int") ∷ [])
    ∷ [])
    ∷ leaf k.Name 38 44 (codes "string")
    ∷ [])
    ∷ [])
    ∷ node k.Union 46 56 (
    node k.TildeType 46 50 (leaf k.Name 47 50 (codes "int") ∷ [])
    ∷ node k.SelectorExpr 53 56 (leaf k.Name 53 54 (codes "q") ∷ leaf k.Name 55 56 (codes "T") ∷ [])
    ∷ [])
    ∷ [])
    ∷ [])
    ∷ [])
    ∷ [])

pub an_interface-derived : Derives an_interface File tokens-an_interface tree-an_interface
an_interface-derived = derives an_interface tokens-an_interface tree-an_interface refl

-- package p; type S[P any, Q ~int|string,] []P; type A [n*m]int; func f[P any](x P) P
abbrev pub generic_declarations : List ℕ
generic_declarations = codes "package p\ntype S[P any, Q ~int|string,] []P\ntype A [n*m]int\nfunc f[P any](x P) P\n"

abbrev pub tokens-generic_declarations : List Token
tokens-generic_declarations =
    at KwPackage 0 7 ∷ at Ident 8 9 ∷ at InsertedSemicolon 9 10 ∷ at KwType 10 14 ∷ at Ident 15 16
    ∷ at LeftBracket 16 17 ∷ at Ident 17 18 ∷ at Ident 19 22 ∷ at Comma 22 23 ∷ at Ident 24 25 ∷ at Tilde 26 27
    ∷ at Ident 27 30 ∷ at Or 30 31 ∷ at Ident 31 37 ∷ at Comma 37 38 ∷ at RightBracket 38 39 ∷ at LeftBracket 40 41
    ∷ at RightBracket 41 42 ∷ at Ident 42 43 ∷ at InsertedSemicolon 43 44 ∷ at KwType 44 48 ∷ at Ident 49 50
    ∷ at LeftBracket 51 52 ∷ at Ident 52 53 ∷ at Mul 53 54 ∷ at Ident 54 55 ∷ at RightBracket 55 56 ∷ at Ident 56 59
    ∷ at InsertedSemicolon 59 60 ∷ at KwFunc 60 64 ∷ at Ident 65 66 ∷ at LeftBracket 66 67 ∷ at Ident 67 68
    ∷ at Ident 69 72 ∷ at RightBracket 72 73 ∷ at LeftParen 73 74 ∷ at Ident 74 75 ∷ at Ident 76 77
    ∷ at RightParen 77 78 ∷ at Ident 79 80 ∷ at InsertedSemicolon 80 81 ∷ at End 81 81 ∷ []

abbrev pub tree-generic_declarations : Tree
tree-generic_declarations =
    node k.File 0 81 (
    leaf k.Name 8 9 (codes "p")
    ∷ node k.TypeDecl 10 43 (
    node k.GenericTypeSpec 15 43 (
    leaf k.Name 15 16 (codes "S")
    ∷ node k.TypeParams 16 39 (
    node k.TypeParam 17 22 (
    leaf k.Name 17 18 (codes "P")
    ∷ node k.Union 19 22 (leaf k.Name 19 22 (codes "any") ∷ [])
    ∷ [])
    ∷ node k.TypeParam 24 37 (
    leaf k.Name 24 25 (codes "Q")
    ∷ node k.Union 26 37 (
    node k.TildeType 26 30 (leaf k.Name 27 30 (codes "int") ∷ [])
    ∷ leaf k.Name 31 37 (codes "string")
    ∷ [])
    ∷ [])
    ∷ [])
    ∷ node k.SliceType 40 43 (leaf k.Name 42 43 (codes "P") ∷ [])
    ∷ [])
    ∷ [])
    ∷ node k.TypeDecl 44 59 (
    node k.TypeSpec 49 59 (
    leaf k.Name 49 50 (codes "A")
    ∷ node k.ArrayType 51 59 (
    node k.MulExpr 52 55 (leaf k.Name 52 53 (codes "n") ∷ leaf k.Name 54 55 (codes "m") ∷ [])
    ∷ leaf k.Name 56 59 (codes "int")
    ∷ [])
    ∷ [])
    ∷ [])
    ∷ node k.FuncDecl 60 80 (
    leaf k.Name 65 66 (codes "f")
    ∷ node k.TypeParams 66 73 (
    node k.TypeParam 67 72 (
    leaf k.Name 67 68 (codes "P")
    ∷ node k.Union 69 72 (leaf k.Name 69 72 (codes "any") ∷ [])
    ∷ [])
    ∷ [])
    ∷ node k.Signature 73 80 (
    node k.Params 73 78 (
    node k.Param 74 77 (leaf k.Name 74 75 (codes "x") ∷ leaf k.Name 76 77 (codes "P") ∷ [])
    ∷ [])
    ∷ leaf k.Name 79 80 (codes "P")
    ∷ [])
    ∷ [])
    ∷ [])

pub generic_declarations-derived : Derives generic_declarations File tokens-generic_declarations tree-generic_declarations
generic_declarations-derived = derives generic_declarations tokens-generic_declarations tree-generic_declarations refl

-- package p; type D [x[0]]int: `[` and an identifier that `[` follows open type parameters
abbrev pub no_length_before_a_bracket : List Token
no_length_before_a_bracket =
    at KwPackage 0 7 ∷ at Ident 8 9 ∷ at InsertedSemicolon 9 10 ∷ at KwType 10 14 ∷ at Ident 15 16
    ∷ at LeftBracket 17 18 ∷ at Ident 18 19 ∷ at LeftBracket 19 20 ∷ at Int 20 21 ∷ at RightBracket 21 22
    ∷ at RightBracket 22 23 ∷ at Ident 23 26 ∷ at InsertedSemicolon 26 27 ∷ at End 27 27 ∷ []

pub no_length_before_a_bracket-refused : IsSentence (codes "package p\ntype D [x[0]]int\n") no_length_before_a_bracket → ⊥
no_length_before_a_bracket-refused = refused (codes "package p\ntype D [x[0]]int\n") no_length_before_a_bracket refl

-- package p; type T struct { a[x+1] }: the argument of an embedded type is a type
abbrev pub no_sum_as_embedded_type : List Token
no_sum_as_embedded_type =
    at KwPackage 0 7 ∷ at Ident 8 9 ∷ at InsertedSemicolon 9 10 ∷ at KwType 10 14 ∷ at Ident 15 16
    ∷ at KwStruct 17 23 ∷ at LeftBrace 24 25 ∷ at Ident 26 27 ∷ at LeftBracket 27 28 ∷ at Ident 28 29 ∷ at Add 29 30
    ∷ at Int 30 31 ∷ at RightBracket 31 32 ∷ at RightBrace 33 34 ∷ at InsertedSemicolon 34 35 ∷ at End 35 35 ∷ []

pub no_sum_as_embedded_type-refused : IsSentence (codes "package p\ntype T struct { a[x+1] }\n") no_sum_as_embedded_type → ⊥
no_sum_as_embedded_type-refused = refused (codes "package p\ntype T struct { a[x+1] }\n") no_sum_as_embedded_type refl

-- package p; x := 1: no statement stands in a file
abbrev pub no_statement_in_a_file : List Token
no_statement_in_a_file =
    at KwPackage 0 7 ∷ at Ident 8 9 ∷ at InsertedSemicolon 9 10 ∷ at Ident 10 11 ∷ at Define 12 14 ∷ at Int 15 16
    ∷ at InsertedSemicolon 16 17 ∷ at End 17 17 ∷ []

pub no_statement_in_a_file-refused : IsSentence (codes "package p\nx := 1\n") no_statement_in_a_file → ⊥
no_statement_in_a_file-refused = refused (codes "package p\nx := 1\n") no_statement_in_a_file refl
