-- Expressions (Go specification, "Expressions").
use Rattle.std.specs.Prelude.{[], ◌∷◌}
use Rattle.go_tree.specs.declared.token.TokenKind.TheVariants.{Int, Float, Rune, KwFunc, KwType, Add, Sub, Mul, Quo, Rem, And, Or, Xor, Shl, Shr, AndNot, LogicalAnd, LogicalOr, Arrow, Equal, Less, Greater, Not, NotEqual, LessEqual, GreaterEqual, Ellipsis, LeftParen, LeftBracket, LeftBrace, Comma, Dot, RightParen, RightBracket, RightBrace, Colon}
use Rattle.go_tree.specs.declared.node_kind.NodeKind.{NodeKind}
use Rattle.go_tree.specs.declared.node_kind.NodeKind.TheVariants as k
use Rattle.go_tree.specs.declared.production.Form.{Form}
use Rattle.go_tree.specs.declared.production.Form.TheVariants.{Plain, Header}
use Rattle.go_tree.specs.declared.production.Items.TheVariants.{Indexes, Elements}
use Rattle.go_tree.specs.declared.production.Production.{Production}
use Rattle.go_tree.specs.declared.production.Production.TheVariants.{AddTail, AfterArg, AfterIndex, AfterName, AfterSelector, AndTail, BasicLit, Block, BracketType, CallOrDot, CallRest, ChanType, CompareTail, Comparison, Conjunction, Element, ElementPart, Expr, ExprNoName, FuncOperand, InterfaceType, MapType, More, MulTail, Name, Operand, OrTail, Product, Signature, StringLit, StructType, Suffix, Sum, Tails, Unary, Value}
use Rattle.go_tree.specs.Grammar.RightSide.{RightSide, Nothing, When, OneOf}
use Rattle.go_tree.specs.Grammar.Words.{◌•◌, ◌or◌, tok, the, opt, many, open_node, reopen_last, close, node, extend, items}
use Rattle.go_tree.specs.Grammar.Statements.{statement_line}

-- what follows a name as operand; in a header it begins no composite literal
abbrev pub after_name : Form → RightSide Production
after_name Plain = opt (the AfterName)
after_name Header = many (the Suffix)

-- unary_op = "+" | "-" | "!" | "^" | "*" | "&" | "<-" .
abbrev pub prefixed : Form → RightSide Production
prefixed w =
    node k.PlusExpr (tok Add • the (Unary w))
    or node k.MinusExpr (tok Sub • the (Unary w))
    or node k.NotExpr (tok Not • the (Unary w))
    or node k.ComplementExpr (tok Xor • the (Unary w))
    or node k.StarExpr (tok Mul • the (Unary w))
    or node k.AddressExpr (tok And • the (Unary w))
    or node k.ArrowExpr (tok Arrow • the (Unary w))

-- Selector = "." identifier . TypeAssertion = "." "(" Type ")" . What follows either is given. `.(type)` is a type switch's
-- guard; the type is read as an expression.
abbrev pub dot : RightSide Production → RightSide Production → RightSide Production
dot selected asserted =
    reopen_last • tok Dot • (
    tok LeftParen • (
    tok KwType • tok RightParen • close k.TypeGuardExpr
    or the (Expr Plain) • tok RightParen • close k.TypeAssertExpr
    ) • asserted
    or the Name • close k.SelectorExpr • selected
    )

-- the bounds of a slice from its first colon on: none, one or two
abbrev pub slice_bounds : NodeKind → NodeKind → NodeKind → RightSide Production
slice_bounds none one two =
    tok Colon • (
    tok RightBracket • close none
    or the (Expr Plain) • (
    tok RightBracket • close one or tok Colon • the (Expr Plain) • tok RightBracket • close two
    )
    )

-- Index = "[" Expression [ "," ] "]" , of which a list is read as in TypeArgs. Slice = "[" [ Expression ] ":" [ Expression ] "]"
-- | "[" [ Expression ] ":" Expression ":" Expression "]" . What follows either is given.
abbrev pub index : RightSide Production → RightSide Production → RightSide Production
index indexed sliced =
    reopen_last • tok LeftBracket • (
    slice_bounds k.SliceAllExpr k.SliceToExpr k.FullSliceToExpr • sliced
    or the (Expr Plain) • (
    opt (the (More Indexes)) • tok RightBracket • close k.IndexExpr • indexed
    or slice_bounds k.SliceFromExpr k.SliceExpr k.FullSliceExpr • sliced
    )
    )

-- Arguments behind their operand
abbrev pub call : RightSide Production
call = reopen_last • tok LeftParen • the CallRest

-- the value of a composite literal behind its type
abbrev pub literal : RightSide Production
literal = extend k.CompositeLit (the Value)

abbrev pub expression_line : Production → RightSide Production
-- Expression = UnaryExpr | Expression binary_op Expression . Operators of one strength group to the left;
-- binary_op = "||" | "&&" | rel_op | add_op | mul_op , the weakest first.
expression_line (Expr w) = the (Conjunction w) • many (the (OrTail w))
-- Binary operators, 1: "||" .
expression_line (OrTail w) = extend k.LogicalOrExpr (tok LogicalOr • the (Conjunction w))
expression_line (Conjunction w) = the (Comparison w) • many (the (AndTail w))
-- Binary operators, 2: "&&" .
expression_line (AndTail w) = extend k.LogicalAndExpr (tok LogicalAnd • the (Comparison w))
expression_line (Comparison w) = the (Sum w) • many (the (CompareTail w))
-- rel_op = "==" | "!=" | "<" | "<=" | ">" | ">=" .
expression_line (CompareTail w) =
    extend k.EqualExpr (tok Equal • the (Sum w))
    or extend k.NotEqualExpr (tok NotEqual • the (Sum w))
    or extend k.LessExpr (tok Less • the (Sum w))
    or extend k.LessEqualExpr (tok LessEqual • the (Sum w))
    or extend k.GreaterExpr (tok Greater • the (Sum w))
    or extend k.GreaterEqualExpr (tok GreaterEqual • the (Sum w))
expression_line (Sum w) = the (Product w) • many (the (AddTail w))
-- add_op = "+" | "-" | "|" | "^" .
expression_line (AddTail w) =
    extend k.AddExpr (tok Add • the (Product w))
    or extend k.SubExpr (tok Sub • the (Product w))
    or extend k.OrExpr (tok Or • the (Product w))
    or extend k.XorExpr (tok Xor • the (Product w))
expression_line (Product w) = the (Unary w) • many (the (MulTail w))
-- mul_op = "*" | "/" | "%" | "<<" | ">>" | "&" | "&^" .
expression_line (MulTail w) =
    extend k.MulExpr (tok Mul • the (Unary w))
    or extend k.QuoExpr (tok Quo • the (Unary w))
    or extend k.RemExpr (tok Rem • the (Unary w))
    or extend k.ShlExpr (tok Shl • the (Unary w))
    or extend k.ShrExpr (tok Shr • the (Unary w))
    or extend k.AndExpr (tok And • the (Unary w))
    or extend k.AndNotExpr (tok AndNot • the (Unary w))
-- UnaryExpr = PrimaryExpr | unary_op UnaryExpr .
-- PrimaryExpr = Operand | Conversion | MethodExpr | PrimaryExpr Selector | PrimaryExpr Index | PrimaryExpr Slice
--             | PrimaryExpr TypeAssertion | PrimaryExpr Arguments .
-- Conversions are read as calls, `[]T(x)`, and method expressions as selectors, `(*T).m`.
expression_line (Unary w) = the Name • after_name w or the Operand • many (the Suffix) or prefixed w
-- Operand = Literal | OperandName [ TypeArgs ] | "(" Expression ")" . Literal = BasicLit | CompositeLit | FunctionLit .
-- CompositeLit = LiteralType LiteralValue . LiteralType = StructType | ArrayType | "[" "..." "]" ElementType
--              | SliceType | MapType | TypeName [ TypeArgs ] .
-- Here are those that do not begin with a name. A type stands too, as in Conversion = Type "(" Expression [ "," ] ")" ,
-- but one that begins with `*`, `<-` or `(` is read as an expression. A `{` behind one of the four opens the value.
expression_line Operand =
    the BasicLit
    or node k.ParenExpr (tok LeftParen • the (Expr Plain) • tok RightParen)
    or (the BracketType or the MapType or the StructType) • When (OneOf (LeftBrace ∷ [])) literal Nothing
    or the ChanType or the InterfaceType or the FuncOperand
-- BasicLit = int_lit | float_lit | imaginary_lit | rune_lit | string_lit .
expression_line BasicLit =
    node k.IntLit (tok Int) or node k.FloatLit (tok Float) or node k.RuneLit (tok Rune) or the StringLit
-- FunctionLit = "func" Signature FunctionBody . Without a body it is a type. A `{` opens the body.
expression_line FuncOperand =
    open_node • tok KwFunc • the Signature
    • When (OneOf (LeftBrace ∷ [])) (the Block • close k.FuncLit) (close k.FuncType)
-- What follows a name: Selector, Index, Slice, TypeAssertion, Arguments, or the value of a composite literal.
-- The value may stand behind `T`, `p.T`, `T[..]` and `p.T[..]`.
expression_line AfterName =
    dot (opt (the AfterSelector)) (many (the Suffix)) or index (opt (the AfterIndex)) (many (the Suffix))
    or (call or literal) • many (the Suffix)
-- What follows `x.y`.
expression_line AfterSelector =
    dot (many (the Suffix)) (many (the Suffix)) or index (opt (the AfterIndex)) (many (the Suffix))
    or (call or literal) • many (the Suffix)
-- What follows `x[..]` and `x.y[..]`.
expression_line AfterIndex = (the Suffix or literal) • many (the Suffix)
-- Selector = "." identifier . Index = "[" Expression [ "," ] "]" . TypeAssertion = "." "(" Type ")" . Slice and Arguments are below.
expression_line Suffix = dot Nothing Nothing or index Nothing Nothing or call
-- Arguments = "(" [ ( ExpressionList | Type [ "," ExpressionList ] ) [ "..." ] [ "," ] ] ")" . A type is read as an expression.
expression_line CallRest = tok RightParen • close k.CallExpr or the (Expr Plain) • the AfterArg
-- What follows an argument.
expression_line AfterArg =
    tok RightParen • close k.CallExpr
    or tok Ellipsis • opt (tok Comma) • tok RightParen • close k.SpreadCallExpr
    or tok Comma • the CallRest
-- LiteralValue = "{" [ ElementList [ "," ] ] "}" . ElementList = KeyedElement { "," KeyedElement } .
expression_line Value = node k.LiteralValue (tok LeftBrace • items Elements • tok RightBrace)
-- KeyedElement = [ Key ":" ] Element .
expression_line Element = the ElementPart • opt (extend k.KeyValueExpr (tok Colon • the ElementPart))
-- Key = FieldName | Expression | LiteralValue . Element = Expression | LiteralValue .
expression_line ElementPart = the (Expr Plain) or the Value
-- An expression that does not begin with a name.
expression_line ExprNoName = (the Operand • many (the Suffix) or prefixed Plain) • the Tails
-- What follows the first operand of an expression.
expression_line Tails =
    many (the (MulTail Plain)) • many (the (AddTail Plain)) • many (the (CompareTail Plain))
    • many (the (AndTail Plain)) • many (the (OrTail Plain))
-- What follows a name in the length of `type T [n.x(y)]U`, binary operators aside.
expression_line CallOrDot = dot (opt (the AfterSelector)) (many (the Suffix)) or call • many (the Suffix)
-- the next section
expression_line n = statement_line n
