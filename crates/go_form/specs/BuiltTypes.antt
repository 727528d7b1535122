-- Types (Go specification).
-- Decides which types are built, and which nodes within types: which parts such a node has, and what they stand for. It is
-- no rule of Go. What stands in a part is left to `Unbuilt`.
use Rattle.go_tree.specs.declared.node_kind.NodeKind.{NodeKind}
use Rattle.go_tree.specs.declared.node_kind.NodeKind.TheVariants as k
use Rattle.go_tree.specs.Tree.{Trees, no_trees, more_trees, kind_of}
use Rattle.go_form.specs.declared.parts.Parts.{Parts}
use Rattle.go_form.specs.declared.parts.Parts.TheVariants.{NotBuilt, NoParts, One, Two, Each, NamesAndType, TypeArguments}
use Rattle.go_form.specs.declared.role.Role.{Role}
use Rattle.go_form.specs.declared.role.Role.TheVariants.{AnyType, ChannelElement, Expression, FieldDecl, Identifier, InterfaceElem, ParameterDecl, Parameters, ReceiveChannel, Results, Signature, Tag}

-- one part, and perhaps a second
abbrev pub one_or_two : Role → Role → Trees → Parts
one_or_two a b (more_trees x no_trees) = One a
one_or_two a b parts = Two a b

-- TYPES

-- an arrow, before `chan`; before all else it is a receive operator
abbrev pub received_parts : NodeKind → Parts
received_parts k.ChanType = One ReceiveChannel
received_parts kind = NotBuilt

abbrev pub arrow_parts : Trees → Parts
arrow_parts (more_trees x no_trees) = received_parts (kind_of x)
arrow_parts parts = NotBuilt

-- those that are written alike where a type and where an expression stands
abbrev pub literal_parts : NodeKind → Trees → Parts
-- ArrayType = "[" ArrayLength "]" ElementType . ArrayLength = Expression .
literal_parts k.ArrayType parts = Two Expression AnyType
-- SliceType = "[" "]" ElementType .
literal_parts k.SliceType parts = One AnyType
-- StructType = "struct" "{" { FieldDecl ";" } "}" .
literal_parts k.StructType parts = Each FieldDecl
-- FunctionType = "func" Signature .
literal_parts k.FuncType parts = One Signature
-- InterfaceType = "interface" "{" { InterfaceElem ";" } "}" .
literal_parts k.InterfaceType parts = Each InterfaceElem
-- MapType = "map" "[" KeyType "]" ElementType .
literal_parts k.MapType parts = Two AnyType AnyType
-- ChannelType = ( "chan" | "chan" "<-" | "<-" "chan" ) ElementType .
literal_parts k.ChanType parts = One ChannelElement
literal_parts k.ArrowExpr parts = arrow_parts parts
literal_parts kind parts = NotBuilt

-- Type = TypeName [ TypeArgs ] | TypeLit | "(" Type ")" .
abbrev pub type_parts : NodeKind → Trees → Parts
type_parts k.Name parts = NoParts
type_parts k.SelectorExpr parts = Two Identifier Identifier
type_parts k.IndexExpr parts = TypeArguments
type_parts k.ParenExpr parts = One AnyType
-- PointerType = "*" BaseType .
type_parts k.StarExpr parts = One AnyType
type_parts kind parts = literal_parts kind parts

-- behind `chan`: the arrow of `chan<- T`, or a type
abbrev pub channel_element_parts : NodeKind → Trees → Parts
channel_element_parts k.ArrowExpr parts = One AnyType
channel_element_parts kind parts = type_parts kind parts

-- behind the arrow of `<-chan T`
abbrev pub receive_channel_parts : NodeKind → Parts
receive_channel_parts k.ChanType = One AnyType
receive_channel_parts kind = NotBuilt

-- SIGNATURES

-- Signature = Parameters [ Result ] .
abbrev pub signature_parts : NodeKind → Trees → Parts
signature_parts k.Signature parts = one_or_two Parameters Results parts
signature_parts kind parts = NotBuilt

-- Parameters = "(" [ ParameterList [ "," ] ] ")" . ParameterList = ParameterDecl { "," ParameterDecl } .
abbrev pub parameters_parts : NodeKind → Parts
parameters_parts k.Params = Each ParameterDecl
parameters_parts kind = NotBuilt

-- Result = Parameters | Type .
abbrev pub result_parts : NodeKind → Trees → Parts
result_parts k.Params parts = Each ParameterDecl
result_parts kind parts = type_parts kind parts

-- ParameterDecl = [ IdentifierList ] [ "..." ] Type .
abbrev pub parameter_parts : NodeKind → Parts
parameter_parts k.Param = Two Identifier AnyType
parameter_parts k.UnnamedParam = One AnyType
parameter_parts k.VariadicParam = Two Identifier AnyType
parameter_parts k.UnnamedVariadic = One AnyType
parameter_parts kind = NotBuilt

-- FIELDS AND ELEMENTS

-- FieldDecl = ( IdentifierList Type | EmbeddedField ) [ Tag ] . EmbeddedField = [ "*" ] TypeName [ TypeArgs ] .
abbrev pub field_parts : NodeKind → Trees → Parts
field_parts k.Field parts = NamesAndType
field_parts k.EmbeddedField parts = one_or_two AnyType Tag parts
field_parts k.EmbeddedPointer parts = one_or_two AnyType Tag parts
field_parts kind parts = NotBuilt

-- Tag = string_lit .
abbrev pub tag_parts : NodeKind → Parts
tag_parts k.StringLit = NoParts
tag_parts kind = NotBuilt

-- InterfaceElem = MethodElem | TypeElem . MethodElem = MethodName Signature . Of the type elements those of one term
-- without `~` are built.
abbrev pub interface_element_parts : NodeKind → Parts
interface_element_parts k.MethodElem = Two Identifier Signature
interface_element_parts k.Union = One AnyType
interface_element_parts kind = NotBuilt
