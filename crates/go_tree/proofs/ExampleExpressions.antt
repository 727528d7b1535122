-- Expressions: small files with their trees, and neighbours that are refused, by computation.
use Rattle.std.proofs.Common.{ℕ, List, [], ◌∷◌, refl}
use Rattle.std.specs.Prelude.{codes}
use Rattle.go_tree.specs.declared.token.Token.{Token}
use Rattle.go_tree.specs.declared.token.TokenKind.TheVariants.{Ident, Int, KwFunc, KwPackage, KwReturn, KwVar, Add, Sub, Mul, Shl, LogicalAnd, LogicalOr, Arrow, Equal, Assign, Not, Ellipsis, LeftParen, LeftBracket, LeftBrace, Comma, Dot, RightParen, RightBracket, RightBrace, Colon, InsertedSemicolon, End}
use Rattle.go_tree.specs.declared.node_kind.NodeKind.TheVariants as k
use Rattle.go_tree.specs.declared.production.Production.TheVariants.{File}
use Rattle.go_tree.specs.Tree.{Tree}
use Rattle.go_tree.specs.Grammar.Trees.Sentence.{Derives, IsSentence}
use Rattle.go_tree.proofs.ExampleLemmas.{at, node, leaf, derives, refused}

-- package p; var x = -a*b + c<<1 == !d && e || <-f
abbrev pub operators : List ℕ
operators = codes "package p\nvar x = -a*b + c<<1 == !d && e || <-f\n"

abbrev pub tokens-operators : List Token
tokens-operators =
    at KwPackage 0 7 ∷ at Ident 8 9 ∷ at InsertedSemicolon 9 10 ∷ at KwVar 10 13 ∷ at Ident 14 15 ∷ at Assign 16 17
    ∷ at Sub 18 19 ∷ at Ident 19 20 ∷ at Mul 20 21 ∷ at Ident 21 22 ∷ at Add 23 24 ∷ at Ident 25 26 ∷ at Shl 26 28
    ∷ at Int 28 29 ∷ at Equal 30 32 ∷ at Not 33 34 ∷ at Ident 34 35 ∷ at LogicalAnd 36 38 ∷ at Ident 39 40
    ∷ at LogicalOr 41 43 ∷ at Arrow 44 46 ∷ at Ident 46 47 ∷ at InsertedSemicolon 47 48 ∷ at End 48 48 ∷ []

abbrev pub tree-operators : Tree
tree-operators =
    node k.File 0 48 (
    leaf k.Name 8 9 (codes "p")
    ∷ node k.VarDecl 10 47 (
    node k.VarSpec 14 47 (
    node k.IdentList 14 15 (leaf k.Name 14 15 (codes "x") ∷ [])
    ∷ node k.ExprList 18 47 (
    node k.LogicalOrExpr 18 47 (
    node k.LogicalAndExpr 18 40 (
    node k.EqualExpr 18 35 (
    node k.AddExpr 18 29 (
    node k.MulExpr 18 22 (
    node k.MinusExpr 18 20 (leaf k.Name 19 20 (codes "a") ∷ [])
    ∷ leaf k.Name 21 22 (codes "b")
    ∷ [])
    ∷ node k.ShlExpr 25 29 (
    leaf k.Name 25 26 (codes "c")
    ∷ leaf k.IntLit 28 29 (codes "1")
    ∷ [])
    ∷ [])
    ∷ node k.NotExpr 33 35 (leaf k.Name 34 35 (codes "d") ∷ [])
    ∷ [])
    ∷ leaf k.Name 39 40 (codes "e")
    ∷ [])
    ∷ node k.ArrowExpr 44 47 (leaf k.Name 46 47 (codes "f") ∷ [])
    ∷ [])
    ∷ [])
    ∷ [])
    ∷ [])
    ∷ [])

pub operators-derived : Derives operators File tokens-operators tree-operators
operators-derived = derives operators tokens-operators tree-operators refl

-- package p; var x = []T{1, k: {2}, q.S[int]{}}
abbrev pub composite_literals : List ℕ
composite_literals = codes "package p\nvar x = []T{1, k: {2}, q.S[int]{}}\n"

abbrev pub tokens-composite_literals : List Token
tokens-composite_literals =
    at KwPackage 0 7 ∷ at Ident 8 9 ∷ at InsertedSemicolon 9 10 ∷ at KwVar 10 13 ∷ at Ident 14 15 ∷ at Assign 16 17
    ∷ at LeftBracket 18 19 ∷ at RightBracket 19 20 ∷ at Ident 20 21 ∷ at LeftBrace 21 22 ∷ at Int 22 23
    ∷ at Comma 23 24 ∷ at Ident 25 26 ∷ at Colon 26 27 ∷ at LeftBrace 28 29 ∷ at Int 29 30 ∷ at RightBrace 30 31
    ∷ at Comma 31 32 ∷ at Ident 33 34 ∷ at Dot 34 35 ∷ at Ident 35 36 ∷ at LeftBracket 36 37 ∷ at Ident 37 40
    ∷ at RightBracket 40 41 ∷ at LeftBrace 41 42 ∷ at RightBrace 42 43 ∷ at RightBrace 43 44
    ∷ at InsertedSemicolon 44 45 ∷ at End 45 45 ∷ []

abbrev pub tree-composite_literals : Tree
tree-composite_literals =
    node k.File 0 45 (
    leaf k.Name 8 9 (codes "p")
    ∷ node k.VarDecl 10 44 (
    node k.VarSpec 14 44 (
    node k.IdentList 14 15 (leaf k.Name 14 15 (codes "x") ∷ [])
    ∷ node k.ExprList 18 44 (
    node k.CompositeLit 18 44 (
    node k.SliceType 18 21 (leaf k.Name 20 21 (codes "T") ∷ [])
    ∷ node k.LiteralValue 21 44 (
    leaf k.IntLit 22 23 (codes "1")
    ∷ node k.KeyValueExpr 25 31 (
    leaf k.Name 25 26 (codes "k")
    ∷ node k.LiteralValue 28 31 (leaf k.IntLit 29 30 (codes "2") ∷ [])
    ∷ [])
    ∷ node k.CompositeLit 33 43 (
    node k.IndexExpr 33 41 (
    node k.SelectorExpr 33 36 (
    leaf k.Name 33 34 (codes "q")
    ∷ leaf k.Name 35 36 (codes "S")
    ∷ [])
    ∷ leaf k.Name 37 40 (codes "int")
    ∷ [])
    ∷ node k.LiteralValue 41 43 []
    ∷ [])
    ∷ [])
    ∷ [])
    ∷ [])
    ∷ [])
    ∷ [])
    ∷ [])

pub composite_literals-derived : Derives composite_literals File tokens-composite_literals tree-composite_literals
composite_literals-derived = derives composite_literals tokens-composite_literals tree-composite_literals refl

-- package p; var x = a.b(c, d...)[:i][j:k:l].(*T)
abbrev pub suffixes : List ℕ
suffixes = codes "package p\nvar x = a.b(c, d...)[:i][j:k:l].(*T)\n"

abbrev pub tokens-suffixes : List Token
tokens-suffixes =
    at KwPackage 0 7 ∷ at Ident 8 9 ∷ at InsertedSemicolon 9 10 ∷ at KwVar 10 13 ∷ at Ident 14 15 ∷ at Assign 16 17
    ∷ at Ident 18 19 ∷ at Dot 19 20 ∷ at Ident 20 21 ∷ at LeftParen 21 22 ∷ at Ident 22 23 ∷ at Comma 23 24
    ∷ at Ident 25 26 ∷ at Ellipsis 26 29 ∷ at RightParen 29 30 ∷ at LeftBracket 30 31 ∷ at Colon 31 32
    ∷ at Ident 32 33 ∷ at RightBracket 33 34 ∷ at LeftBracket 34 35 ∷ at Ident 35 36 ∷ at Colon 36 37
    ∷ at Ident 37 38 ∷ at Colon 38 39 ∷ at Ident 39 40 ∷ at RightBracket 40 41 ∷ at Dot 41 42 ∷ at LeftParen 42 43
    ∷ at Mul 43 44 ∷ at Ident 44 45 ∷ at RightParen 45 46 ∷ at InsertedSemicolon 46 47 ∷ at End 47 47 ∷ []

abbrev pub tree-suffixes : Tree
tree-suffixes =
    node k.File 0 47 (
    leaf k.Name 8 9 (codes "p")
    ∷ node k.VarDecl 10 46 (
    node k.VarSpec 14 46 (
    node k.IdentList 14 15 (leaf k.Name 14 15 (codes "x") ∷ [])
    ∷ node k.ExprList 18 46 (
    node k.TypeAssertExpr 18 46 (
    node k.FullSliceExpr 18 41 (
    node k.SliceToExpr 18 34 (
    node k.SpreadCallExpr 18 30 (
    node k.SelectorExpr 18 21 (
    leaf k.Name 18 19 (codes "a")
    ∷ leaf k.Name 20 21 (codes "b")
    ∷ [])
    ∷ leaf k.Name 22 23 (codes "c")
    ∷ leaf k.Name 25 26 (codes "d")
    ∷ [])
    ∷ leaf k.Name 32 33 (codes "i")
    ∷ [])
    ∷ leaf k.Name 35 36 (codes "j")
    ∷ leaf k.Name 37 38 (codes "k")
    ∷ leaf k.Name 39 40 (codes "l")
    ∷ [])
    ∷ node k.StarExpr 43 45 (leaf k.Name 44 45 (codes "T") ∷ [])
    ∷ [])
    ∷ [])
    ∷ [])
    ∷ [])
    ∷ [])

pub suffixes-derived : Derives suffixes File tokens-suffixes tree-suffixes
suffixes-derived = derives suffixes tokens-suffixes tree-suffixes refl

-- package p; var f = func(x int) int { return x }
abbrev pub a_function_literal : List ℕ
a_function_literal = codes "package p\nvar f = func(x int) int { return x }\n"

abbrev pub tokens-a_function_literal : List Token
tokens-a_function_literal =
    at KwPackage 0 7 ∷ at Ident 8 9 ∷ at InsertedSemicolon 9 10 ∷ at KwVar 10 13 ∷ at Ident 14 15 ∷ at Assign 16 17
    ∷ at KwFunc 18 22 ∷ at LeftParen 22 23 ∷ at Ident 23 24 ∷ at Ident 25 28 ∷ at RightParen 28 29 ∷ at Ident 30 33
    ∷ at LeftBrace 34 35 ∷ at KwReturn 36 42 ∷ at Ident 43 44 ∷ at RightBrace 45 46 ∷ at InsertedSemicolon 46 47
    ∷ at End 47 47 ∷ []

abbrev pub tree-a_function_literal : Tree
tree-a_function_literal =
    node k.File 0 47 (
    leaf k.Name 8 9 (codes "p")
    ∷ node k.VarDecl 10 46 (
    node k.VarSpec 14 46 (
    node k.IdentList 14 15 (leaf k.Name 14 15 (codes "f") ∷ [])
    ∷ node k.ExprList 18 46 (
    node k.FuncLit 18 46 (
    node k.Signature 22 33 (
    node k.Params 22 29 (
    node k.Param 23 28 (leaf k.Name 23 24 (codes "x") ∷ leaf k.Name 25 28 (codes "int") ∷ [])
    ∷ [])
    ∷ leaf k.Name 30 33 (codes "int")
    ∷ [])
    ∷ node k.Block 34 46 (
    node k.ReturnStmt 36 44 (node k.ExprList 43 44 (leaf k.Name 43 44 (codes "x") ∷ []) ∷ [])
    ∷ [])
    ∷ [])
    ∷ [])
    ∷ [])
    ∷ [])
    ∷ [])

pub a_function_literal-derived : Derives a_function_literal File tokens-a_function_literal tree-a_function_literal
a_function_literal-derived = derives a_function_literal tokens-a_function_literal tree-a_function_literal refl

-- package p; var x = []T.(y)
abbrev pub an_assertion_on_a_type : List ℕ
an_assertion_on_a_type = codes "package p\nvar x = []T.(y)\n"

abbrev pub tokens-an_assertion_on_a_type : List Token
tokens-an_assertion_on_a_type =
    at KwPackage 0 7 ∷ at Ident 8 9 ∷ at InsertedSemicolon 9 10 ∷ at KwVar 10 13 ∷ at Ident 14 15 ∷ at Assign 16 17
    ∷ at LeftBracket 18 19 ∷ at RightBracket 19 20 ∷ at Ident 20 21 ∷ at Dot 21 22 ∷ at LeftParen 22 23
    ∷ at Ident 23 24 ∷ at RightParen 24 25 ∷ at InsertedSemicolon 25 26 ∷ at End 26 26 ∷ []

abbrev pub tree-an_assertion_on_a_type : Tree
tree-an_assertion_on_a_type =
    node k.File 0 26 (
    leaf k.Name 8 9 (codes "p")
    ∷ node k.VarDecl 10 25 (
    node k.VarSpec 14 25 (
    node k.IdentList 14 15 (leaf k.Name 14 15 (codes "x") ∷ [])
    ∷ node k.ExprList 18 25 (
    node k.TypeAssertExpr 18 25 (
    node k.SliceType 18 21 (leaf k.Name 20 21 (codes "T") ∷ [])
    ∷ leaf k.Name 23 24 (codes "y")
    ∷ [])
    ∷ [])
    ∷ [])
    ∷ [])
    ∷ [])

pub an_assertion_on_a_type-derived : Derives an_assertion_on_a_type File tokens-an_assertion_on_a_type tree-an_assertion_on_a_type
an_assertion_on_a_type-derived = derives an_assertion_on_a_type tokens-an_assertion_on_a_type tree-an_assertion_on_a_type refl

-- package p; var x = []T[1]: `[` behind a type name opens type arguments
abbrev pub no_index_directly_behind_a_type_name : List Token
no_index_directly_behind_a_type_name =
    at KwPackage 0 7 ∷ at Ident 8 9 ∷ at InsertedSemicolon 9 10 ∷ at KwVar 10 13 ∷ at Ident 14 15 ∷ at Assign 16 17
    ∷ at LeftBracket 18 19 ∷ at RightBracket 19 20 ∷ at Ident 20 21 ∷ at LeftBracket 21 22 ∷ at Int 22 23
    ∷ at RightBracket 23 24 ∷ at InsertedSemicolon 24 25 ∷ at End 25 25 ∷ []

pub no_index_directly_behind_a_type_name-refused : IsSentence (codes "package p\nvar x = []T[1]\n") no_index_directly_behind_a_type_name → ⊥
no_index_directly_behind_a_type_name-refused = refused (codes "package p\nvar x = []T[1]\n") no_index_directly_behind_a_type_name refl

-- package p; var x = func()(1): `(` behind the parameters of a function type opens its results
abbrev pub no_argument_directly_behind_parameters : List Token
no_argument_directly_behind_parameters =
    at KwPackage 0 7 ∷ at Ident 8 9 ∷ at InsertedSemicolon 9 10 ∷ at KwVar 10 13 ∷ at Ident 14 15 ∷ at Assign 16 17
    ∷ at KwFunc 18 22 ∷ at LeftParen 22 23 ∷ at RightParen 23 24 ∷ at LeftParen 24 25 ∷ at Int 25 26
    ∷ at RightParen 26 27 ∷ at InsertedSemicolon 27 28 ∷ at End 28 28 ∷ []

pub no_argument_directly_behind_parameters-refused : IsSentence (codes "package p\nvar x = func()(1)\n") no_argument_directly_behind_parameters → ⊥
no_argument_directly_behind_parameters-refused = refused (codes "package p\nvar x = func()(1)\n") no_argument_directly_behind_parameters refl

-- package p; var x = func()*1: `*` behind the parameters of a function type begins its result
abbrev pub no_product_directly_behind_parameters : List Token
no_product_directly_behind_parameters =
    at KwPackage 0 7 ∷ at Ident 8 9 ∷ at InsertedSemicolon 9 10 ∷ at KwVar 10 13 ∷ at Ident 14 15 ∷ at Assign 16 17
    ∷ at KwFunc 18 22 ∷ at LeftParen 22 23 ∷ at RightParen 23 24 ∷ at Mul 24 25 ∷ at Int 25 26
    ∷ at InsertedSemicolon 26 27 ∷ at End 27 27 ∷ []

pub no_product_directly_behind_parameters-refused : IsSentence (codes "package p\nvar x = func()*1\n") no_product_directly_behind_parameters → ⊥
no_product_directly_behind_parameters-refused = refused (codes "package p\nvar x = func()*1\n") no_product_directly_behind_parameters refl
