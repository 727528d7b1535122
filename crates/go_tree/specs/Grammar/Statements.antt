-- Statements (Go specification, "Statements", "Blocks").
use Rattle.go_tree.specs.declared.token.TokenKind.{TokenKind}
use Rattle.go_tree.specs.declared.token.TokenKind.TheVariants.{KwBreak, KwCase, KwContinue, KwDefault, KwDefer, KwElse, KwFallthrough, KwFor, KwGo, KwGoto, KwIf, KwRange, KwReturn, KwSelect, KwSwitch, AddAssign, SubAssign, MulAssign, QuoAssign, RemAssign, AndAssign, OrAssign, XorAssign, ShlAssign, ShrAssign, AndNotAssign, Arrow, Inc, Dec, Assign, Define, LeftBrace, Comma, RightBrace, Colon}
use Rattle.go_tree.specs.declared.node_kind.NodeKind.{NodeKind}
use Rattle.go_tree.specs.declared.node_kind.NodeKind.TheVariants as k
use Rattle.go_tree.specs.declared.production.Form.{Form}
use Rattle.go_tree.specs.declared.production.Form.TheVariants.{Plain, Header}
use Rattle.go_tree.specs.declared.production.Clauses.{Clauses}
use Rattle.go_tree.specs.declared.production.Clauses.TheVariants.{Cases, Comms}
use Rattle.go_tree.specs.declared.production.Production.{Production}
use Rattle.go_tree.specs.declared.production.Production.TheVariants.{AfterClauseStmt, AfterExpr, AfterName, Block, Clause, ClauseBody, Decl, Expr, ExprNoName, Exprs, For, ForAfterExpr, ForClauses, If, Name, Select, Simple, SimpleTail, Stmt, Switch, Tails}
use Rattle.go_tree.specs.Grammar.RightSide.{RightSide, Call, Nothing}
use Rattle.go_tree.specs.Grammar.Words.{◌•◌, ◌or◌, tok, the, opt, many, open_node, reopen_last, close, node, extend, semi}

-- a list from its first expression on
abbrev pub expr_list : Form → RightSide Production
expr_list w = reopen_last • many (tok Comma • the (Expr w)) • close k.ExprList

-- an operator and its right side
abbrev pub assignment : TokenKind → Form → NodeKind → RightSide Production → RightSide Production
assignment op w kind end = tok op • the (Exprs w) • close kind • end

-- assign_op with add_op or mul_op
abbrev pub assignments : Form → RightSide Production → RightSide Production
assignments w end =
    assignment AddAssign w k.AddAssignStmt end or assignment SubAssign w k.SubAssignStmt end
    or assignment MulAssign w k.MulAssignStmt end or assignment QuoAssign w k.QuoAssignStmt end
    or assignment RemAssign w k.RemAssignStmt end or assignment AndAssign w k.AndAssignStmt end
    or assignment OrAssign w k.OrAssignStmt end or assignment XorAssign w k.XorAssignStmt end
    or assignment ShlAssign w k.ShlAssignStmt end or assignment ShrAssign w k.ShrAssignStmt end
    or assignment AndNotAssign w k.AndNotAssignStmt end

-- the `;` behind the statement that a header begins with
abbrev pub init_end : RightSide Production
init_end = extend k.Init semi

abbrev pub case_of : Clauses → RightSide Production
case_of Cases = the (Exprs Plain)
case_of Comms = the (Simple Plain)

abbrev pub clause_kind : Clauses → NodeKind
clause_kind Cases = k.CaseClause
clause_kind Comms = k.CommClause

-- `=` or `:=` of a range clause, or of the statement before the first `;`
abbrev pub range_or_assignment : TokenKind → NodeKind → NodeKind → RightSide Production
range_or_assignment op ranges assigns =
    tok op • (
    tok KwRange • the (Expr Header) • close ranges • the Block • close k.RangeStmt
    or the (Exprs Header) • close assigns • init_end • the ForClauses
    )

abbrev pub statement_line : Production → RightSide Production
-- Block = "{" StatementList "}" . StatementList = { Statement ";" } . Of an empty statement there is no node.
statement_line Block =
    node k.Block (tok LeftBrace • opt (the Stmt) • many (semi • opt (the Stmt)) • tok RightBrace)
-- Statement = Declaration | LabeledStmt | SimpleStmt | GoStmt | ReturnStmt | BreakStmt | ContinueStmt | GotoStmt
--           | FallthroughStmt | Block | IfStmt | SwitchStmt | SelectStmt | ForStmt | DeferStmt .
-- LabeledStmt = Label ":" Statement . GoStmt = "go" Expression . DeferStmt = "defer" Expression .
-- ReturnStmt = "return" [ ExpressionList ] . BreakStmt = "break" [ Label ] . ContinueStmt = "continue" [ Label ] .
-- GotoStmt = "goto" Label . FallthroughStmt = "fallthrough" .
statement_line Stmt =
    the Decl
    or the Name • (
    extend k.LabeledStmt (tok Colon • opt (the Stmt))
    or opt (the AfterName) • the Tails • the (AfterExpr Plain)
    )
    or the ExprNoName • the (AfterExpr Plain)
    or node k.GoStmt (tok KwGo • the (Expr Plain))
    or node k.DeferStmt (tok KwDefer • the (Expr Plain))
    or node k.ReturnStmt (tok KwReturn • opt (the (Exprs Plain)))
    or node k.BreakStmt (tok KwBreak • opt (the Name))
    or node k.ContinueStmt (tok KwContinue • opt (the Name))
    or node k.GotoStmt (tok KwGoto • the Name)
    or node k.FallthroughStmt (tok KwFallthrough) or the Block or the If or the Switch or the Select or the For
-- SimpleStmt = EmptyStmt | ExpressionStmt | SendStmt | IncDecStmt | Assignment | ShortVarDecl .
statement_line (Simple w) = the (Expr w) • the (AfterExpr w)
-- ExpressionStmt = Expression .
statement_line (AfterExpr w) = the (SimpleTail w) or extend k.ExprStmt Nothing
-- SendStmt = Channel "<-" Expression . IncDecStmt = Expression ( "++" | "--" ) .
-- Assignment = ExpressionList assign_op ExpressionList . assign_op = [ add_op | mul_op ] "=" .
-- ShortVarDecl = IdentifierList ":=" ExpressionList . What stands on its left is read as expressions.
statement_line (SimpleTail w) =
    extend k.SendStmt (tok Arrow • the (Expr w))
    or extend k.IncStmt (tok Inc) or extend k.DecStmt (tok Dec)
    or expr_list w • reopen_last • (
    assignments w Nothing or assignment Assign w k.AssignStmt Nothing
    or assignment Define w k.DefineStmt Nothing
    )
-- IfStmt = "if" [ SimpleStmt ";" ] Expression Block [ "else" ( IfStmt | Block ) ] .
statement_line If =
    node k.IfStmt (
    tok KwIf • (
    node k.Init semi • the (Expr Header)
    or the (Expr Header) • opt (the (AfterExpr Header) • init_end • the (Expr Header))
    ) • the Block • opt (tok KwElse • (the If or the Block))
    )
-- SwitchStmt = ExprSwitchStmt | TypeSwitchStmt .
-- ExprSwitchStmt = "switch" [ SimpleStmt ";" ] [ Expression ] "{" { ExprCaseClause } "}" .
-- TypeSwitchStmt = "switch" [ SimpleStmt ";" ] TypeSwitchGuard "{" { TypeCaseClause } "}" .
-- TypeSwitchGuard = [ identifier ":=" ] PrimaryExpr "." "(" "type" ")" .
-- own: the guard is read as a simple statement, and so is the last part of any switch header.
statement_line Switch =
    node k.SwitchStmt (
    tok KwSwitch • opt (
    node k.Init semi • opt (the (Simple Header))
    or the (Simple Header) • opt (init_end • opt (the (Simple Header)))
    ) • tok LeftBrace • opt (the (Clause Cases)) • tok RightBrace
    )
-- SelectStmt = "select" "{" { CommClause } "}" .
statement_line Select =
    node k.SelectStmt (tok KwSelect • tok LeftBrace • opt (the (Clause Comms)) • tok RightBrace)
-- ExprCaseClause = ExprSwitchCase ":" StatementList . ExprSwitchCase = "case" ExpressionList | "default" .
-- TypeCaseClause = TypeSwitchCase ":" StatementList . TypeSwitchCase = "case" TypeList | "default" .
-- The types of a case are read as expressions: `case int, []T:`.
-- CommClause = CommCase ":" StatementList . CommCase = "case" ( SendStmt | RecvStmt ) | "default" .
-- RecvStmt = [ ExpressionList "=" | IdentifierList ":=" ] RecvExpr . RecvExpr = Expression .
-- own: any simple statement is read here, and a rule refuses the others.
statement_line (Clause c) =
    open_node • (tok KwCase • case_of c or node k.Default (tok KwDefault)) • tok Colon • the (ClauseBody c)
-- The statements of a clause, and the clauses behind it. own: before a further one each statement ends in `;`.
statement_line (ClauseBody c) =
    semi • the (ClauseBody c)
    or the Stmt • the (AfterClauseStmt c)
    or close (clause_kind c) • opt (the (Clause c))
-- What follows a statement of a clause. Without a `;` the clause is the last.
statement_line (AfterClauseStmt c) = semi • the (ClauseBody c) or close (clause_kind c)
-- ForStmt = "for" [ Condition | ForClause | RangeClause ] Block .
-- RangeClause = [ ExpressionList "=" | IdentifierList ":=" ] "range" Expression . The identifiers are read as
-- expressions.
statement_line For =
    open_node • tok KwFor • (
    the Block • close k.ForStmt
    or node k.Init semi • the ForClauses
    or node k.RangeClause (tok KwRange • the (Expr Header)) • the Block • close k.RangeStmt
    or the (Expr Header) • the ForAfterExpr
    )
-- What follows the expression that the header of a for begins with. This repeats SimpleTail and AfterExpr: after each
-- of them one token decides whether a block, a `;` or `range` follows.
statement_line ForAfterExpr =
    the Block • close k.ForStmt
    or extend k.ExprStmt Nothing • init_end • the ForClauses
    or extend k.SendStmt (tok Arrow • the (Expr Header)) • init_end • the ForClauses
    or extend k.IncStmt (tok Inc) • init_end • the ForClauses
    or extend k.DecStmt (tok Dec) • init_end • the ForClauses
    or expr_list Header • reopen_last • (
    assignments Header (init_end • the ForClauses)
    or range_or_assignment Assign k.RangeAssign k.AssignStmt
    or range_or_assignment Define k.RangeDefine k.DefineStmt
    )
-- ForClause = [ InitStmt ] ";" [ Condition ] ";" [ PostStmt ] . This is what follows its first `;`.
statement_line ForClauses =
    opt (the (Expr Header)) • semi • opt (the (Simple Header)) • the Block • close k.ForStmt
-- no production reaches this line: each has one above
statement_line n = Call n
