-- Source file organization; Import declarations; Constant declarations; Variable declarations; Type declarations;
-- Qualified identifiers; Expressions (Go specification).
-- Decides which forms of a file are built, by what they stand for: which parts such a node has, and what they stand for.
-- It is no rule of Go. What stands in a part is left to `Unbuilt`.
use Rattle.go_tree.specs.declared.node_kind.NodeKind.{NodeKind}
use Rattle.go_tree.specs.declared.node_kind.NodeKind.TheVariants as k
use Rattle.go_tree.specs.Tree.{Trees, no_trees, more_trees, kind_of}
use Rattle.go_form.specs.declared.parts.Parts.{Parts}
use Rattle.go_form.specs.declared.parts.Parts.TheVariants.{NotBuilt, AnyParts, NoParts, One, Two, Three, Each, OneAndEach}
use Rattle.go_form.specs.declared.role.Role.{Role}
use Rattle.go_form.specs.declared.role.Role.TheVariants.{AnyType, ConstCopy, ConstSpec, Declaration, ChannelElement, Expression, ExpressionList, FieldDecl, Identifier, IdentifierList, InterfaceElem, ParameterDecl, Parameters, ReceiveChannel, Results, Signature, SourceFile, Tag, TypeSpec, Unbuilt, VarSpec}
use Rattle.go_form.specs.BuiltOperators.{operator_parts}
use Rattle.go_form.specs.BuiltTypes.{type_parts, channel_element_parts, receive_channel_parts, signature_parts, parameters_parts, result_parts, parameter_parts, field_parts, tag_parts, interface_element_parts}

-- DECLARATIONS

-- SourceFile = PackageClause ";" { ImportDecl ";" } { TopLevelDecl ";" } .
abbrev pub file_parts : NodeKind → Parts
file_parts k.File = OneAndEach Identifier Declaration
file_parts kind = NotBuilt

-- Declaration = ConstDecl | TypeDecl | VarDecl .
-- ConstDecl = "const" ( ConstSpec | "(" { ConstSpec ";" } ")" ) . VarDecl and TypeDecl likewise. Other rules speak of
-- imports.
abbrev pub declaration_parts : NodeKind → Parts
declaration_parts k.ImportDecl = AnyParts
declaration_parts k.ImportGroup = AnyParts
declaration_parts k.ConstDecl = One ConstSpec
declaration_parts k.ConstGroup = Each ConstSpec
declaration_parts k.TypeDecl = One TypeSpec
declaration_parts k.TypeGroup = Each TypeSpec
declaration_parts k.VarDecl = One VarSpec
declaration_parts k.VarGroup = Each VarSpec
declaration_parts kind = NotBuilt

-- SPECS

-- those of a spec of constants without a type, behind whose names that stands: values, or the copy of a list that is
-- omitted
abbrev pub with_values : NodeKind → Parts
with_values k.ExprList = Two IdentifierList ExpressionList
with_values k.ConstCopy = Two IdentifierList ConstCopy
with_values kind = NotBuilt

-- and of one with a type, which is not built
abbrev pub with_type_and_values : NodeKind → Parts
with_type_and_values k.ExprList = Three IdentifierList Unbuilt ExpressionList
with_type_and_values kind = NotBuilt

-- IdentifierList [ [ Type ] "=" ExpressionList ]
abbrev pub constant_parts : Trees → Parts
constant_parts (more_trees names (more_trees values no_trees)) = with_values (kind_of values)
constant_parts (more_trees names (more_trees type (more_trees values no_trees))) = with_type_and_values (kind_of values)
constant_parts parts = NotBuilt

-- "the first preceding non-empty expression list and its type if any": the type is not built
abbrev pub copied_parts : Trees → Parts
copied_parts (more_trees values no_trees) = One ExpressionList
copied_parts (more_trees type (more_trees values no_trees)) = Two Unbuilt ExpressionList
copied_parts parts = NotBuilt

abbrev pub const_copy_parts : NodeKind → Trees → Parts
const_copy_parts k.ConstCopy parts = copied_parts parts
const_copy_parts kind parts = NotBuilt

-- ConstSpec = IdentifierList [ [ Type ] "=" ExpressionList ] .
abbrev pub const_spec_parts : NodeKind → Trees → Parts
const_spec_parts k.ConstSpec parts = constant_parts parts
const_spec_parts kind parts = NotBuilt

-- those of a spec of variables whose last part is of that kind: a type, and no values
abbrev pub with_type : NodeKind → Parts
with_type k.ExprList = NotBuilt
with_type kind = Two IdentifierList AnyType

-- IdentifierList ( Type [ "=" ExpressionList ] | "=" ExpressionList ), with a type alone
abbrev pub variable_parts : Trees → Parts
variable_parts (more_trees names (more_trees type no_trees)) = with_type (kind_of type)
variable_parts parts = NotBuilt

-- VarSpec = IdentifierList ( Type [ "=" ExpressionList ] | "=" ExpressionList ) .
abbrev pub var_spec_parts : NodeKind → Trees → Parts
var_spec_parts k.VarSpec parts = variable_parts parts
var_spec_parts kind parts = NotBuilt

-- AliasDecl = identifier [ TypeParameters ] "=" Type . TypeDef = identifier [ TypeParameters ] Type . Type parameters are
-- not built.
abbrev pub type_spec_parts : NodeKind → Parts
type_spec_parts k.AliasSpec = Two Identifier AnyType
type_spec_parts k.TypeSpec = Two Identifier AnyType
type_spec_parts k.GenericAliasSpec = Three Identifier Unbuilt AnyType
type_spec_parts k.GenericTypeSpec = Three Identifier Unbuilt AnyType
type_spec_parts kind = NotBuilt

-- IdentifierList = identifier { "," identifier } .
abbrev pub identifiers_parts : NodeKind → Parts
identifiers_parts k.IdentList = OneAndEach Identifier Identifier
identifiers_parts kind = NotBuilt

-- ExpressionList = Expression { "," Expression } .
abbrev pub expressions_parts : NodeKind → Parts
expressions_parts k.ExprList = OneAndEach Expression Expression
expressions_parts kind = NotBuilt

-- EXPRESSIONS

abbrev pub identifier_parts : NodeKind → Parts
identifier_parts k.Name = NoParts
identifier_parts kind = NotBuilt

abbrev pub expression_parts : NodeKind → Trees → Parts
-- Operand = Literal | OperandName [ TypeArgs ] | "(" Expression ")" . Another rule speaks of a floating-point literal.
expression_parts k.IntLit parts = NoParts
expression_parts k.FloatLit parts = NoParts
expression_parts k.RuneLit parts = NoParts
expression_parts k.StringLit parts = NoParts
expression_parts k.Name parts = NoParts
-- QualifiedIdent = PackageName "." identifier .
expression_parts k.SelectorExpr parts = Two Identifier Identifier
expression_parts k.ParenExpr parts = One Expression
expression_parts kind parts = operator_parts kind parts

-- ALL

-- the parts that a node of that kind and with these parts has where it stands for that
abbrev pub parts_as : Role → NodeKind → Trees → Parts
parts_as SourceFile kind parts = file_parts kind
parts_as Declaration kind parts = declaration_parts kind
parts_as ConstSpec kind parts = const_spec_parts kind parts
parts_as ConstCopy kind parts = const_copy_parts kind parts
parts_as VarSpec kind parts = var_spec_parts kind parts
parts_as TypeSpec kind parts = type_spec_parts kind
parts_as IdentifierList kind parts = identifiers_parts kind
parts_as ExpressionList kind parts = expressions_parts kind
parts_as Identifier kind parts = identifier_parts kind
parts_as Expression kind parts = expression_parts kind parts
parts_as AnyType kind parts = type_parts kind parts
parts_as ChannelElement kind parts = channel_element_parts kind parts
parts_as ReceiveChannel kind parts = receive_channel_parts kind
parts_as Signature kind parts = signature_parts kind parts
parts_as Parameters kind parts = parameters_parts kind
parts_as Results kind parts = result_parts kind parts
parts_as ParameterDecl kind parts = parameter_parts kind
parts_as FieldDecl kind parts = field_parts kind parts
parts_as Tag kind parts = tag_parts kind
parts_as InterfaceElem kind parts = interface_element_parts kind
parts_as Unbuilt kind parts = NotBuilt
