-- Statements: small files with their trees, and neighbours that are refused, by computation.
use Rattle.std.proofs.Common.{ℕ, List, [], ◌∷◌, refl}
use Rattle.std.specs.Prelude.{codes}
use Rattle.go_tree.specs.declared.token.Token.{Token}
use Rattle.go_tree.specs.declared.token.TokenKind.TheVariants.{Ident, Int, KwBreak, KwCase, KwDefault, KwElse, KwFor, KwFunc, KwIf, KwPackage, KwRange, KwSelect, KwSwitch, KwType, Mul, Arrow, Inc, Equal, Less, Assign, Define, LeftParen, LeftBracket, LeftBrace, Comma, Dot, RightParen, RightBracket, RightBrace, Semicolon, Colon, InsertedSemicolon, End}
use Rattle.go_tree.specs.declared.node_kind.NodeKind.TheVariants as k
use Rattle.go_tree.specs.declared.production.Production.TheVariants.{File}
use Rattle.go_tree.specs.Tree.{Tree}
use Rattle.go_tree.specs.Grammar.Trees.Sentence.{Derives, IsSentence}
use Rattle.go_tree.proofs.ExampleLemmas.{at, node, leaf, derives, refused}

-- package p; func f() { if x == (T{1}) { } else if []T{} == x { } }
abbrev pub a_literal_in_a_header : List ℕ
a_literal_in_a_header = codes "package p\nfunc f() { if x == (T{1}) { } else if []T{} == x { } }\n"

abbrev pub tokens-a_literal_in_a_header : List Token
tokens-a_literal_in_a_header =
    at KwPackage 0 7 ∷ at Ident 8 9 ∷ at InsertedSemicolon 9 10 ∷ at KwFunc 10 14 ∷ at Ident 15 16
    ∷ at LeftParen 16 17 ∷ at RightParen 17 18 ∷ at LeftBrace 19 20 ∷ at KwIf 21 23 ∷ at Ident 24 25
    ∷ at Equal 26 28 ∷ at LeftParen 29 30 ∷ at Ident 30 31 ∷ at LeftBrace 31 32 ∷ at Int 32 33 ∷ at RightBrace 33 34
    ∷ at RightParen 34 35 ∷ at LeftBrace 36 37 ∷ at RightBrace 38 39 ∷ at KwElse 40 44 ∷ at KwIf 45 47
    ∷ at LeftBracket 48 49 ∷ at RightBracket 49 50 ∷ at Ident 50 51 ∷ at LeftBrace 51 52 ∷ at RightBrace 52 53
    ∷ at Equal 54 56 ∷ at Ident 57 58 ∷ at LeftBrace 59 60 ∷ at RightBrace 61 62 ∷ at RightBrace 63 64
    ∷ at InsertedSemicolon 64 65 ∷ at End 65 65 ∷ []

abbrev pub tree-a_literal_in_a_header : Tree
tree-a_literal_in_a_header =
    node k.File 0 65 (
    leaf k.Name 8 9 (codes "p")
    ∷ node k.FuncDecl 10 64 (
    leaf k.Name 15 16 (codes "f")
    ∷ node k.Signature 16 18 (node k.Params 16 18 [] ∷ [])
    ∷ node k.Block 19 64 (
    node k.IfStmt 21 62 (
    node k.EqualExpr 24 35 (
    leaf k.Name 24 25 (codes "x")
    ∷ node k.ParenExpr 29 35 (
    node k.CompositeLit 30 34 (
    leaf k.Name 30 31 (codes "T")
    ∷ node k.LiteralValue 31 34 (leaf k.IntLit 32 33 (codes "1") ∷ [])
    ∷ [])
    ∷ [])
    ∷ [])
    ∷ node k.Block 36 39 []
    ∷ node k.IfStmt 45 62 (
    node k.EqualExpr 48 58 (
    node k.CompositeLit 48 53 (
    node k.SliceType 48 51 (leaf k.Name 50 51 (codes "T") ∷ [])
    ∷ node k.LiteralValue 51 53 []
    ∷ [])
    ∷ leaf k.Name 57 58 (codes "x")
    ∷ [])
    ∷ node k.Block 59 62 []
    ∷ [])
    ∷ [])
    ∷ [])
    ∷ [])
    ∷ [])

pub a_literal_in_a_header-derived : Derives a_literal_in_a_header File tokens-a_literal_in_a_header tree-a_literal_in_a_header
a_literal_in_a_header-derived = derives a_literal_in_a_header tokens-a_literal_in_a_header tree-a_literal_in_a_header refl

-- package p; func f() { switch x := y.(type) { case int, *T: a(); default: } }
abbrev pub a_type_switch : List ℕ
a_type_switch = codes "package p\nfunc f() { switch x := y.(type) { case int, *T: a(); default: } }\n"

abbrev pub tokens-a_type_switch : List Token
tokens-a_type_switch =
    at KwPackage 0 7 ∷ at Ident 8 9 ∷ at InsertedSemicolon 9 10 ∷ at KwFunc 10 14 ∷ at Ident 15 16
    ∷ at LeftParen 16 17 ∷ at RightParen 17 18 ∷ at LeftBrace 19 20 ∷ at KwSwitch 21 27 ∷ at Ident 28 29
    ∷ at Define 30 32 ∷ at Ident 33 34 ∷ at Dot 34 35 ∷ at LeftParen 35 36 ∷ at KwType 36 40 ∷ at RightParen 40 41
    ∷ at LeftBrace 42 43 ∷ at KwCase 44 48 ∷ at Ident 49 52 ∷ at Comma 52 53 ∷ at Mul 54 55 ∷ at Ident 55 56
    ∷ at Colon 56 57 ∷ at Ident 58 59 ∷ at LeftParen 59 60 ∷ at RightParen 60 61 ∷ at Semicolon 61 62
    ∷ at KwDefault 63 70 ∷ at Colon 70 71 ∷ at RightBrace 72 73 ∷ at RightBrace 74 75 ∷ at InsertedSemicolon 75 76
    ∷ at End 76 76 ∷ []

abbrev pub tree-a_type_switch : Tree
tree-a_type_switch =
    node k.File 0 76 (
    leaf k.Name 8 9 (codes "p")
    ∷ node k.FuncDecl 10 75 (
    leaf k.Name 15 16 (codes "f")
    ∷ node k.Signature 16 18 (node k.Params 16 18 [] ∷ [])
    ∷ node k.Block 19 75 (
    node k.SwitchStmt 21 73 (
    node k.DefineStmt 28 41 (
    node k.ExprList 28 29 (leaf k.Name 28 29 (codes "x") ∷ [])
    ∷ node k.ExprList 33 41 (node k.TypeGuardExpr 33 41 (leaf k.Name 33 34 (codes "y") ∷ []) ∷ [])
    ∷ [])
    ∷ node k.CaseClause 44 62 (
    node k.ExprList 49 56 (
    leaf k.Name 49 52 (codes "int")
    ∷ node k.StarExpr 54 56 (leaf k.Name 55 56 (codes "T") ∷ [])
    ∷ [])
    ∷ node k.ExprStmt 58 61 (node k.CallExpr 58 61 (leaf k.Name 58 59 (codes "a") ∷ []) ∷ [])
    ∷ [])
    ∷ node k.CaseClause 63 71 (node k.Default 63 70 [] ∷ [])
    ∷ [])
    ∷ [])
    ∷ [])
    ∷ [])

pub a_type_switch-derived : Derives a_type_switch File tokens-a_type_switch tree-a_type_switch
a_type_switch-derived = derives a_type_switch tokens-a_type_switch tree-a_type_switch refl

-- package p; func f() { select { case c <- x: case v, ok := <-d: } }
abbrev pub a_select : List ℕ
a_select = codes "package p\nfunc f() { select { case c <- x: case v, ok := <-d: } }\n"

abbrev pub tokens-a_select : List Token
tokens-a_select =
    at KwPackage 0 7 ∷ at Ident 8 9 ∷ at InsertedSemicolon 9 10 ∷ at KwFunc 10 14 ∷ at Ident 15 16
    ∷ at LeftParen 16 17 ∷ at RightParen 17 18 ∷ at LeftBrace 19 20 ∷ at KwSelect 21 27 ∷ at LeftBrace 28 29
    ∷ at KwCase 30 34 ∷ at Ident 35 36 ∷ at Arrow 37 39 ∷ at Ident 40 41 ∷ at Colon 41 42 ∷ at KwCase 43 47
    ∷ at Ident 48 49 ∷ at Comma 49 50 ∷ at Ident 51 53 ∷ at Define 54 56 ∷ at Arrow 57 59 ∷ at Ident 59 60
    ∷ at Colon 60 61 ∷ at RightBrace 62 63 ∷ at RightBrace 64 65 ∷ at InsertedSemicolon 65 66 ∷ at End 66 66 ∷ []

abbrev pub tree-a_select : Tree
tree-a_select =
    node k.File 0 66 (
    leaf k.Name 8 9 (codes "p")
    ∷ node k.FuncDecl 10 65 (
    leaf k.Name 15 16 (codes "f")
    ∷ node k.Signature 16 18 (node k.Params 16 18 [] ∷ [])
    ∷ node k.Block 19 65 (
    node k.SelectStmt 21 63 (
    node k.CommClause 30 42 (
    node k.SendStmt 35 41 (leaf k.Name 35 36 (codes "c") ∷ leaf k.Name 40 41 (codes "x") ∷ [])
    ∷ [])
    ∷ node k.CommClause 43 61 (
    node k.DefineStmt 48 60 (
    node k.ExprList 48 53 (leaf k.Name 48 49 (codes "v") ∷ leaf k.Name 51 53 (codes "ok") ∷ [])
    ∷ node k.ExprList 57 60 (node k.ArrowExpr 57 60 (leaf k.Name 59 60 (codes "d") ∷ []) ∷ [])
    ∷ [])
    ∷ [])
    ∷ [])
    ∷ [])
    ∷ [])
    ∷ [])

pub a_select-derived : Derives a_select File tokens-a_select tree-a_select
a_select-derived = derives a_select tokens-a_select tree-a_select refl

-- package p; func f() { L: for i := 0; i < n; i++ { break L }; for k = range m { } }
abbrev pub loops : List ℕ
loops = codes "package p\nfunc f() { L: for i := 0; i < n; i++ { break L }; for k = range m { } }\n"

abbrev pub tokens-loops : List Token
tokens-loops =
    at KwPackage 0 7 ∷ at Ident 8 9 ∷ at InsertedSemicolon 9 10 ∷ at KwFunc 10 14 ∷ at Ident 15 16
    ∷ at LeftParen 16 17 ∷ at RightParen 17 18 ∷ at LeftBrace 19 20 ∷ at Ident 21 22 ∷ at Colon 22 23
    ∷ at KwFor 24 27 ∷ at Ident 28 29 ∷ at Define 30 32 ∷ at Int 33 34 ∷ at Semicolon 34 35 ∷ at Ident 36 37
    ∷ at Less 38 39 ∷ at Ident 40 41 ∷ at Semicolon 41 42 ∷ at Ident 43 44 ∷ at Inc 44 46 ∷ at LeftBrace 47 48
    ∷ at KwBreak 49 54 ∷ at Ident 55 56 ∷ at RightBrace 57 58 ∷ at Semicolon 58 59 ∷ at KwFor 60 63 ∷ at Ident 64 65
    ∷ at Assign 66 67 ∷ at KwRange 68 73 ∷ at Ident 74 75 ∷ at LeftBrace 76 77 ∷ at RightBrace 78 79
    ∷ at RightBrace 80 81 ∷ at InsertedSemicolon 81 82 ∷ at End 82 82 ∷ []

abbrev pub tree-loops : Tree
tree-loops =
    node k.File 0 82 (
    leaf k.Name 8 9 (codes "p")
    ∷ node k.FuncDecl 10 81 (
    leaf k.Name 15 16 (codes "f")
    ∷ node k.Signature 16 18 (node k.Params 16 18 [] ∷ [])
    ∷ node k.Block 19 81 (
    node k.LabeledStmt 21 58 (
    leaf k.Name 21 22 (codes "L")
    ∷ node k.ForStmt 24 58 (
    node k.Init 28 35 (
    node k.DefineStmt 28 34 (
    node k.ExprList 28 29 (leaf k.Name 28 29 (codes "i") ∷ [])
    ∷ node k.ExprList 33 34 (leaf k.IntLit 33 34 (codes "0") ∷ [])
    ∷ [])
    ∷ [])
    ∷ node k.LessExpr 36 41 (leaf k.Name 36 37 (codes "i") ∷ leaf k.Name 40 41 (codes "n") ∷ [])
    ∷ node k.IncStmt 43 46 (leaf k.Name 43 44 (codes "i") ∷ [])
    ∷ node k.Block 47 58 (node k.BreakStmt 49 56 (leaf k.Name 55 56 (codes "L") ∷ []) ∷ [])
    ∷ [])
    ∷ [])
    ∷ node k.RangeStmt 60 79 (
    node k.RangeAssign 64 75 (
    node k.ExprList 64 65 (leaf k.Name 64 65 (codes "k") ∷ [])
    ∷ leaf k.Name 74 75 (codes "m")
    ∷ [])
    ∷ node k.Block 76 79 []
    ∷ [])
    ∷ [])
    ∷ [])
    ∷ [])

pub loops-derived : Derives loops File tokens-loops tree-loops
loops-derived = derives loops tokens-loops tree-loops refl

-- package p; func f() { func() <- x }
abbrev pub a_send_on_a_function_type : List ℕ
a_send_on_a_function_type = codes "package p\nfunc f() { func() <- x }\n"

abbrev pub tokens-a_send_on_a_function_type : List Token
tokens-a_send_on_a_function_type =
    at KwPackage 0 7 ∷ at Ident 8 9 ∷ at InsertedSemicolon 9 10 ∷ at KwFunc 10 14 ∷ at Ident 15 16
    ∷ at LeftParen 16 17 ∷ at RightParen 17 18 ∷ at LeftBrace 19 20 ∷ at KwFunc 21 25 ∷ at LeftParen 25 26
    ∷ at RightParen 26 27 ∷ at Arrow 28 30 ∷ at Ident 31 32 ∷ at RightBrace 33 34 ∷ at InsertedSemicolon 34 35
    ∷ at End 35 35 ∷ []

abbrev pub tree-a_send_on_a_function_type : Tree
tree-a_send_on_a_function_type =
    node k.File 0 35 (
    leaf k.Name 8 9 (codes "p")
    ∷ node k.FuncDecl 10 34 (
    leaf k.Name 15 16 (codes "f")
    ∷ node k.Signature 16 18 (node k.Params 16 18 [] ∷ [])
    ∷ node k.Block 19 34 (
    node k.SendStmt 21 32 (
    node k.FuncType 21 27 (node k.Signature 25 27 (node k.Params 25 27 [] ∷ []) ∷ [])
    ∷ leaf k.Name 31 32 (codes "x")
    ∷ [])
    ∷ [])
    ∷ [])
    ∷ [])

pub a_send_on_a_function_type-derived : Derives a_send_on_a_function_type File tokens-a_send_on_a_function_type tree-a_send_on_a_function_type
a_send_on_a_function_type-derived = derives a_send_on_a_function_type tokens-a_send_on_a_function_type tree-a_send_on_a_function_type refl

-- package p; func f() { if x == T{} { } }: in a header `{` behind a name opens the block
abbrev pub no_bare_literal_in_a_header : List Token
no_bare_literal_in_a_header =
    at KwPackage 0 7 ∷ at Ident 8 9 ∷ at InsertedSemicolon 9 10 ∷ at KwFunc 10 14 ∷ at Ident 15 16
    ∷ at LeftParen 16 17 ∷ at RightParen 17 18 ∷ at LeftBrace 19 20 ∷ at KwIf 21 23 ∷ at Ident 24 25
    ∷ at Equal 26 28 ∷ at Ident 29 30 ∷ at LeftBrace 30 31 ∷ at RightBrace 31 32 ∷ at LeftBrace 33 34
    ∷ at RightBrace 35 36 ∷ at RightBrace 37 38 ∷ at InsertedSemicolon 38 39 ∷ at End 39 39 ∷ []

pub no_bare_literal_in_a_header-refused : IsSentence (codes "package p\nfunc f() { if x == T{} { } }\n") no_bare_literal_in_a_header → ⊥
no_bare_literal_in_a_header-refused = refused (codes "package p\nfunc f() { if x == T{} { } }\n") no_bare_literal_in_a_header refl

-- package p; func f() { switch { case 1: a case 2: } }: a statement before a further clause ends in `;`
abbrev pub no_case_directly_behind_a_statement : List Token
no_case_directly_behind_a_statement =
    at KwPackage 0 7 ∷ at Ident 8 9 ∷ at InsertedSemicolon 9 10 ∷ at KwFunc 10 14 ∷ at Ident 15 16
    ∷ at LeftParen 16 17 ∷ at RightParen 17 18 ∷ at LeftBrace 19 20 ∷ at KwSwitch 21 27 ∷ at LeftBrace 28 29
    ∷ at KwCase 30 34 ∷ at Int 35 36 ∷ at Colon 36 37 ∷ at Ident 38 39 ∷ at KwCase 40 44 ∷ at Int 45 46
    ∷ at Colon 46 47 ∷ at RightBrace 48 49 ∷ at RightBrace 50 51 ∷ at InsertedSemicolon 51 52 ∷ at End 52 52 ∷ []

pub no_case_directly_behind_a_statement-refused : IsSentence (codes "package p\nfunc f() { switch { case 1: a case 2: } }\n") no_case_directly_behind_a_statement → ⊥
no_case_directly_behind_a_statement-refused = refused (codes "package p\nfunc f() { switch { case 1: a case 2: } }\n") no_case_directly_behind_a_statement refl

-- package p; func f() { switch { case 1: L: case 2: } }: so does a label without a statement
abbrev pub no_case_directly_behind_a_label : List Token
no_case_directly_behind_a_label =
    at KwPackage 0 7 ∷ at Ident 8 9 ∷ at InsertedSemicolon 9 10 ∷ at KwFunc 10 14 ∷ at Ident 15 16
    ∷ at LeftParen 16 17 ∷ at RightParen 17 18 ∷ at LeftBrace 19 20 ∷ at KwSwitch 21 27 ∷ at LeftBrace 28 29
    ∷ at KwCase 30 34 ∷ at Int 35 36 ∷ at Colon 36 37 ∷ at Ident 38 39 ∷ at Colon 39 40 ∷ at KwCase 41 45
    ∷ at Int 46 47 ∷ at Colon 47 48 ∷ at RightBrace 49 50 ∷ at RightBrace 51 52 ∷ at InsertedSemicolon 52 53
    ∷ at End 53 53 ∷ []

pub no_case_directly_behind_a_label-refused : IsSentence (codes "package p\nfunc f() { switch { case 1: L: case 2: } }\n") no_case_directly_behind_a_label → ⊥
no_case_directly_behind_a_label-refused = refused (codes "package p\nfunc f() { switch { case 1: L: case 2: } }\n") no_case_directly_behind_a_label refl
