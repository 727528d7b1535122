-- The rank of each production: its short text is made with productions of a lower rank.
-- Not needed to read the grammar: that the ranks serve is proved.
use Rattle.std.specs.Prelude.{ℕ}
use Rattle.go_tree.specs.declared.production.Production.{Production}
use Rattle.go_tree.specs.declared.production.Production.TheVariants.{AddTail, AfterIndex, AndTail, AnyType, BracketType, ChanElem, ChanType, Clause, CompareTail, Comparison, Conjunction, ConstSpec, ConstraintAfterName, Elem, Element, ElementPart, Expr, ExprNoName, Exprs, Field, File, For, ForAfterExpr, ForClauses, FuncOperand, FuncRest, FuncType, Idents, If, ImportSpec, MapType, MulTail, Operand, OrTail, Param, ParenType, Product, RecvChan, ResultType, Signature, Simple, StarType, Sum, Term, Top, TypeArgs, TypeName, TypeNoBracket, TypeNoName, TypeParam, TypeParams, TypeSpec, TypeSpecBracket, Unary, Union, VarSpec}

abbrev pub rank : Production → ℕ
rank File = 1
rank ImportSpec = 1
rank Top = 1
rank FuncRest = 2
rank ConstSpec = 2
rank VarSpec = 2
rank Idents = 1
rank (Exprs w) = 7
rank TypeSpec = 2
rank TypeSpecBracket = 2
rank TypeParams = 5
rank TypeParam = 4
rank ConstraintAfterName = 1
rank AnyType = 1
rank TypeNoBracket = 1
rank TypeNoName = 1
rank ResultType = 1
rank ChanElem = 1
rank TypeName = 3
rank TypeArgs = 2
rank ParenType = 2
rank StarType = 2
rank BracketType = 2
rank MapType = 2
rank RecvChan = 2
rank ChanType = 2
rank FuncType = 2
rank Signature = 1
rank Param = 1
rank Field = 1
rank Elem = 2
rank Union = 3
rank Term = 2
rank (Expr w) = 6
rank (OrTail w) = 6
rank (Conjunction w) = 5
rank (AndTail w) = 5
rank (Comparison w) = 4
rank (CompareTail w) = 4
rank (Sum w) = 3
rank (AddTail w) = 3
rank (Product w) = 2
rank (MulTail w) = 2
rank (Unary w) = 1
rank Operand = 1
rank FuncOperand = 2
rank AfterIndex = 1
rank Element = 2
rank ElementPart = 1
rank ExprNoName = 2
rank (Simple w) = 7
rank If = 7
rank (Clause c) = 1
rank For = 1
rank ForAfterExpr = 1
rank ForClauses = 1
rank _ = 0

-- above all ranks
abbrev pub top_rank : ℕ
top_rank = 8
