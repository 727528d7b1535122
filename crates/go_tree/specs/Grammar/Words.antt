-- The words of the productions.
use Rattle.go_tree.specs.declared.token.TokenKind.{TokenKind}
use Rattle.go_tree.specs.declared.token.TokenKind.TheVariants.{LeftParen, Comma, RightParen, Semicolon, InsertedSemicolon}
use Rattle.go_tree.specs.declared.node_kind.NodeKind.{NodeKind}
use Rattle.go_tree.specs.declared.production.Form.TheVariants.{Plain}
use Rattle.go_tree.specs.declared.production.Items.{Items}
use Rattle.go_tree.specs.declared.production.Items.TheVariants.{ImportSpecs, ConstSpecs, VarSpecs, TypeSpecs, TypeParamGroups, Types, Parameters, Fields, Elems, Indexes, Elements}
use Rattle.go_tree.specs.declared.production.Production.{Production}
use Rattle.go_tree.specs.declared.production.Production.TheVariants.{AnyType, ConstSpec, Elem, Element, Expr, Field, ImportSpec, More, Param, TypeParam, TypeSpec, VarSpec}
use Rattle.go_tree.specs.Grammar.RightSide.{RightSide, Do, Call, Nothing, Seq, Or, Many, Pass, Open, Reopen, Adopt, CheckType, Close}

infixr 30 ◌•◌
infixr 20 ◌or◌
-- one behind the other
abbrev pub ◌•◌ : RightSide Production → RightSide Production → RightSide Production
g • h = Seq g h

-- g | h
abbrev pub ◌or◌ : RightSide Production → RightSide Production → RightSide Production
g or h = Or g h

-- a token of that kind
abbrev pub tok : TokenKind → RightSide Production
tok kind = Do (Pass kind)

-- what the production of that name reads
abbrev pub the : Production → RightSide Production
the n = Call n

-- [ g ]
abbrev pub opt : RightSide Production → RightSide Production
opt g = Or g Nothing

-- { g }
abbrev pub many : RightSide Production → RightSide Production
many g = Many g

-- a node begins
abbrev pub open_node : RightSide Production
open_node = Do Open

-- a node begins whose first part is the node that was read last
abbrev pub reopen_last : RightSide Production
reopen_last = Do Reopen

-- the node that was read before the innermost open one becomes its first part
abbrev pub adopt_last : RightSide Production
adopt_last = Do Adopt

-- the node that was read last is written as a type is
abbrev pub check_type : RightSide Production
check_type = Do CheckType

-- the innermost open node ends, with that kind
abbrev pub close : NodeKind → RightSide Production
close kind = Do (Close kind)

-- a node of that kind with the parts that g reads
abbrev pub node : NodeKind → RightSide Production → RightSide Production
node kind g = open_node • g • close kind

-- a node of that kind whose first part is the node that was read last
abbrev pub extend : NodeKind → RightSide Production → RightSide Production
extend kind g = reopen_last • g • close kind

-- `;`, written or inserted
abbrev pub semi : RightSide Production
semi = tok Semicolon or tok InsertedSemicolon

-- what stands between two items
abbrev pub separator : Items → RightSide Production
separator ImportSpecs = semi
separator ConstSpecs = semi
separator VarSpecs = semi
separator TypeSpecs = semi
separator TypeParamGroups = tok Comma
separator Types = tok Comma
separator Parameters = tok Comma
separator Fields = semi
separator Elems = semi
separator Indexes = tok Comma
separator Elements = tok Comma

abbrev pub item : Items → RightSide Production
item ImportSpecs = the ImportSpec
item ConstSpecs = the ConstSpec
item VarSpecs = the VarSpec
item TypeSpecs = the TypeSpec
item TypeParamGroups = the TypeParam
item Types = the AnyType
item Parameters = the Param
item Fields = the Field
item Elems = the Elem
item Indexes = the (Expr Plain)
item Elements = the Element

-- items with separators between them, of which one may stand last; or none
abbrev pub items : Items → RightSide Production
items l = opt (item l • opt (the (More l)))

-- "(" [ X { ";" X } [ ";" ] ] ")"
abbrev pub group : Items → RightSide Production
group l = tok LeftParen • items l • tok RightParen
