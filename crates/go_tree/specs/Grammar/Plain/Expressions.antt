-- Plain lines of expressions: as the Go specification has them, before they are factored so that one token decides.
use Rattle.go_tree.specs.declared.token.TokenKind.TheVariants.{KwType, Ellipsis, LeftParen, LeftBracket, Comma, Dot, RightParen, RightBracket, Colon}
use Rattle.go_tree.specs.declared.node_kind.NodeKind.TheVariants as k
use Rattle.go_tree.specs.declared.production.Form.{Form}
use Rattle.go_tree.specs.declared.production.Form.TheVariants.{Plain, Header}
use Rattle.go_tree.specs.declared.production.Items.TheVariants.{Indexes}
use Rattle.go_tree.specs.declared.production.Production.{Production}
use Rattle.go_tree.specs.declared.production.Production.TheVariants.{ElementPart, Expr, More, Name, Operand, Suffix}
use Rattle.go_tree.specs.Grammar.RightSide.{RightSide}
use Rattle.go_tree.specs.Grammar.Words.{◌•◌, ◌or◌, tok, the, opt, many, extend}
use Rattle.go_tree.specs.Grammar.Expressions.{literal, prefixed}

-- Selector = "." identifier .
abbrev pub plain_selector : RightSide Production
plain_selector = extend k.SelectorExpr (tok Dot • the Name)

-- Index = "[" Expression [ "," ] "]" . TypeArgs = "[" TypeList [ "," ] "]" , where types are read as expressions.
abbrev pub plain_index : RightSide Production
plain_index = extend k.IndexExpr (tok LeftBracket • the (Expr Plain) • opt (the (More Indexes)) • tok RightBracket)

-- Slice = "[" [ Expression ] ":" [ Expression ] "]"
abbrev pub slice : RightSide Production
slice =
    extend k.SliceAllExpr (tok LeftBracket • tok Colon • tok RightBracket)
    or extend k.SliceFromExpr (tok LeftBracket • the (Expr Plain) • tok Colon • tok RightBracket)
    or extend k.SliceToExpr (tok LeftBracket • tok Colon • the (Expr Plain) • tok RightBracket)
    or extend k.SliceExpr (tok LeftBracket • the (Expr Plain) • tok Colon • the (Expr Plain) • tok RightBracket)

--       | "[" [ Expression ] ":" Expression ":" Expression "]" .
abbrev pub full_slice : RightSide Production
full_slice =
    extend k.FullSliceToExpr (
    tok LeftBracket • tok Colon • the (Expr Plain) • tok Colon • the (Expr Plain) • tok RightBracket
    )
    or extend k.FullSliceExpr (
    tok LeftBracket • the (Expr Plain) • tok Colon • the (Expr Plain) • tok Colon • the (Expr Plain)
    • tok RightBracket
    )

-- TypeAssertion = "." "(" Type ")" . `.(type)` is a type switch's guard.
abbrev pub type_assertion : RightSide Production
type_assertion =
    extend k.TypeAssertExpr (tok Dot • tok LeftParen • the (Expr Plain) • tok RightParen)
    or extend k.TypeGuardExpr (tok Dot • tok LeftParen • tok KwType • tok RightParen)

-- ExpressionList = Expression { "," Expression } , of which each is a part of the call
abbrev pub argument_list : RightSide Production
argument_list = the (Expr Plain) • many (tok Comma • the (Expr Plain))

-- Arguments = "(" [ ( ExpressionList | Type [ "," ExpressionList ] ) [ "..." ] [ "," ] ] ")" . A type is read as an expression.
abbrev pub plain_call : RightSide Production
plain_call =
    extend k.CallExpr (tok LeftParen • opt (argument_list • opt (tok Comma)) • tok RightParen)
    or extend k.SpreadCallExpr (tok LeftParen • argument_list • tok Ellipsis • opt (tok Comma) • tok RightParen)

-- PrimaryExpr = PrimaryExpr Selector | PrimaryExpr Index | PrimaryExpr Slice | PrimaryExpr TypeAssertion | PrimaryExpr Arguments .
abbrev pub plain_suffix : RightSide Production
plain_suffix = plain_selector or plain_index or slice or full_slice or type_assertion or plain_call

-- What follows a name as operand. The value of a composite literal may stand behind `T`, `p.T`, `T[..]` and `p.T[..]`.
abbrev pub plain_after_name : RightSide Production
plain_after_name = opt (opt plain_selector • opt plain_index • literal) • many (the Suffix)

-- What follows `p.T`.
abbrev pub plain_after_selector : RightSide Production
plain_after_selector = opt (opt plain_index • literal) • many (the Suffix)

-- What follows `T[..]` and `p.T[..]`.
abbrev pub plain_after_index : RightSide Production
plain_after_index = opt literal • many (the Suffix)

-- Operand = Literal | OperandName [ TypeArgs ] | "(" Expression ")" . CompositeLit = LiteralType LiteralValue , here with
-- LiteralType = TypeName [ TypeArgs ] and not in a header. What does not begin with a name is an Operand.
abbrev pub plain_operand : Form → RightSide Production
plain_operand Plain = the Name • opt (opt plain_selector • opt plain_index • literal) or the Operand
plain_operand Header = the Name or the Operand

-- UnaryExpr = PrimaryExpr | unary_op UnaryExpr . PrimaryExpr = Operand { Suffix } .
abbrev pub plain_unary : Form → RightSide Production
plain_unary w = plain_operand w • many (the Suffix) or prefixed w

-- What follows a name in the length of `type T [n.x(y)]U`, binary operators aside. It begins with neither `[` nor `{`.
abbrev pub plain_call_or_dot : RightSide Production
plain_call_or_dot = plain_selector • plain_after_selector or (type_assertion or plain_call) • many (the Suffix)

-- KeyedElement = [ Key ":" ] Element .
abbrev pub plain_element : RightSide Production
plain_element = the ElementPart • extend k.KeyValueExpr (tok Colon • the ElementPart) or the ElementPart
