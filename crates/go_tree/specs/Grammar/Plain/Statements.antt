-- Plain lines of statements: as the Go specification has them, before they are factored so that one token decides.
use Rattle.go_tree.specs.declared.token.TokenKind.{TokenKind}
use Rattle.go_tree.specs.declared.token.TokenKind.TheVariants.{KwBreak, KwCase, KwContinue, KwDefault, KwDefer, KwElse, KwFallthrough, KwFor, KwGo, KwGoto, KwIf, KwRange, KwReturn, KwSelect, KwSwitch, AddAssign, SubAssign, MulAssign, QuoAssign, RemAssign, AndAssign, OrAssign, XorAssign, ShlAssign, ShrAssign, AndNotAssign, Arrow, Inc, Dec, Assign, Define, LeftBrace, RightBrace, Colon}
use Rattle.go_tree.specs.declared.node_kind.NodeKind.{NodeKind}
use Rattle.go_tree.specs.declared.node_kind.NodeKind.TheVariants as k
use Rattle.go_tree.specs.declared.production.Form.{Form}
use Rattle.go_tree.specs.declared.production.Form.TheVariants.{Plain, Header}
use Rattle.go_tree.specs.declared.production.Clauses.{Clauses}
use Rattle.go_tree.specs.declared.production.Clauses.TheVariants.{Cases, Comms}
use Rattle.go_tree.specs.declared.production.Production.{Production}
use Rattle.go_tree.specs.declared.production.Production.TheVariants.{Block, Decl, Expr, Exprs, For, ForClauses, If, Name, Select, Simple, Stmt, Switch}
use Rattle.go_tree.specs.Grammar.RightSide.{RightSide, Nothing}
use Rattle.go_tree.specs.Grammar.Words.{◌•◌, ◌or◌, tok, the, opt, many, open_node, node, extend, semi}
use Rattle.go_tree.specs.Grammar.Statements.{expr_list, init_end, case_of, clause_kind}

-- [ SimpleStmt ";" ] where it stands: the statement may be empty
abbrev pub header_init : RightSide Production
header_init = node k.Init semi or the (Simple Header) • init_end

abbrev pub assigned : Form → TokenKind → NodeKind → RightSide Production
assigned w op kind = the (Expr w) • expr_list w • extend kind (tok op • the (Exprs w))

abbrev pub ranged : TokenKind → NodeKind → RightSide Production
ranged op kind = the (Expr Header) • expr_list Header • extend kind (tok op • tok KwRange • the (Expr Header))

-- RangeClause = [ ExpressionList "=" | IdentifierList ":=" ] "range" Expression .
abbrev pub range_clause : RightSide Production
range_clause =
    node k.RangeClause (tok KwRange • the (Expr Header))
    or ranged Assign k.RangeAssign or ranged Define k.RangeDefine

-- StatementList = { Statement ";" } . Of an empty statement there is no node.
abbrev pub ended_statements : RightSide Production
ended_statements = many (opt (the Stmt) • semi)

-- ExprCaseClause = ExprSwitchCase ":" StatementList . ExprSwitchCase = "case" ExpressionList | "default" .
-- TypeCaseClause and CommClause likewise.
abbrev pub clause : Clauses → RightSide Production → RightSide Production
clause c statements =
    node (clause_kind c) (
    (tok KwCase • case_of c or node k.Default (tok KwDefault)) • tok Colon • statements
    )

-- { ExprCaseClause } , { TypeCaseClause } or { CommClause } . Before a further clause each statement ends in `;`, or there are
-- none; before the `}` the last `;` may be left out.
abbrev pub plain_clauses : Clauses → RightSide Production
plain_clauses c = many (clause c ended_statements) • opt (clause c (ended_statements • the Stmt))

-- Statement = Declaration | LabeledStmt | SimpleStmt | GoStmt | ReturnStmt | BreakStmt | ContinueStmt | GotoStmt
--           | FallthroughStmt | Block | IfStmt | SwitchStmt | SelectStmt | ForStmt | DeferStmt .
abbrev pub plain_stmt : RightSide Production
plain_stmt =
    the Decl
    or the Name • extend k.LabeledStmt (tok Colon • opt (the Stmt))
    or the (Simple Plain)
    or node k.GoStmt (tok KwGo • the (Expr Plain))
    or node k.ReturnStmt (tok KwReturn • opt (the (Exprs Plain)))
    or node k.BreakStmt (tok KwBreak • opt (the Name))
    or node k.ContinueStmt (tok KwContinue • opt (the Name))
    or node k.GotoStmt (tok KwGoto • the Name)
    or node k.FallthroughStmt (tok KwFallthrough) or the Block or the If or the Switch or the Select or the For
    or node k.DeferStmt (tok KwDefer • the (Expr Plain))

-- SimpleStmt = EmptyStmt | ExpressionStmt | SendStmt | IncDecStmt | Assignment | ShortVarDecl .
abbrev pub plain_simple : Form → RightSide Production
plain_simple w =
    the (Expr w) • extend k.ExprStmt Nothing
    or the (Expr w) • extend k.SendStmt (tok Arrow • the (Expr w))
    or the (Expr w) • extend k.IncStmt (tok Inc)
    or the (Expr w) • extend k.DecStmt (tok Dec)
    or assigned w Assign k.AssignStmt or assigned w AddAssign k.AddAssignStmt
    or assigned w SubAssign k.SubAssignStmt or assigned w MulAssign k.MulAssignStmt
    or assigned w QuoAssign k.QuoAssignStmt or assigned w RemAssign k.RemAssignStmt
    or assigned w AndAssign k.AndAssignStmt or assigned w OrAssign k.OrAssignStmt
    or assigned w XorAssign k.XorAssignStmt or assigned w ShlAssign k.ShlAssignStmt
    or assigned w ShrAssign k.ShrAssignStmt or assigned w AndNotAssign k.AndNotAssignStmt
    or assigned w Define k.DefineStmt

-- IfStmt = "if" [ SimpleStmt ";" ] Expression Block [ "else" ( IfStmt | Block ) ] .
abbrev pub plain_if : RightSide Production
plain_if =
    node k.IfStmt (
    tok KwIf • opt header_init • the (Expr Header) • the Block • opt (tok KwElse • (the If or the Block))
    )

-- SwitchStmt = "switch" [ SimpleStmt ";" ] [ Expression | TypeSwitchGuard ] "{" { Clause } "}" .
abbrev pub plain_switch : RightSide Production
plain_switch =
    node k.SwitchStmt (
    tok KwSwitch • opt header_init • opt (the (Simple Header)) • tok LeftBrace • plain_clauses Cases
    • tok RightBrace
    )

-- SelectStmt = "select" "{" { CommClause } "}" .
abbrev pub plain_select : RightSide Production
plain_select = node k.SelectStmt (tok KwSelect • tok LeftBrace • plain_clauses Comms • tok RightBrace)

-- ForStmt = "for" [ Condition | ForClause | RangeClause ] Block .
abbrev pub plain_for : RightSide Production
plain_for =
    node k.ForStmt (tok KwFor • opt (the (Expr Header)) • the Block)
    or open_node • tok KwFor • header_init • the ForClauses
    or node k.RangeStmt (tok KwFor • range_clause • the Block)
