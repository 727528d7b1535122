-- Struct types; Interface types; Function types (Go specification).
-- Decides which names a type literal declares, and what each is declared as: fields, methods of interfaces, and parameters
-- and results. They are read off the type for which the literal stands. Parameters and results without a name are none.
use Rattle.std.specs.Prelude.{if◌then◌else◌, List, [], ◌∷◌, ◌++◌}
use Rattle.std.specs.List.{flat_map, list_any}
use Rattle.go_tree.specs.declared.node_kind.NodeKind.TheVariants.{FuncType, InterfaceType, MethodElem, Param, Params, StructType, UnnamedParam, VariadicParam}
use Rattle.go_tree.specs.Tree.{Tree, branch, kind_of, list_of, more_trees, no_trees, parts_of}
use Rattle.go_module.specs.Names.Inner.{is_named_param}
use Rattle.go_module.specs.Names.Rules.MemberRules.{field_names}
use Rattle.go_module.specs.NodeParts.{all_but_first, first_part}
use Rattle.go_term.specs.Types as types
use Rattle.go_term.specs.Types.{Parts, TypeData, interface_type, made, method, more_parts, no_parts, of_one, slice, struct_type}
use Rattle.go_report.specs.Report.{DefinedData, field, function, variable}

-- a name, and what it is declared as
abbrev pub Member : Type 0
Member = Tree × DefinedData

-- each of these by its type
abbrev pub each_by : (Tree → TypeData → List Member) → List Tree → List TypeData → List Member
each_by members (t ∷ ts) (type ∷ others) = members t type ++ each_by members ts others
each_by members ts others = []

-- FIELDS

-- the type of a field
abbrev pub field_type : TypeData → TypeData
field_type (made head (more_parts type no_parts)) = type
field_type type = type

abbrev pub field_member : Tree → TypeData → List Member
field_member name part = (name, field (field_type part)) ∷ []

-- PARAMETERS AND RESULTS

-- "the type of p within f is equivalent to type []T", where p is a final parameter `p ...T`
abbrev pub param_member : Tree → TypeData → List Member
param_member (branch id from to Param text (more_trees name type)) t = (name, variable t) ∷ []
param_member (branch id from to VariadicParam text (more_trees name type)) t = (name, variable (of_one slice t)) ∷ []
param_member (branch id from to UnnamedParam text (more_trees name rest)) t = (name, variable t) ∷ []
param_member param t = []

-- of a list in which one has a name, all have; a result that is a type has none
abbrev pub list_members : List TypeData → Tree → List Member
list_members ts (branch id from to Params text parts) =
    if list_any (λ p. is_named_param (kind_of p)) (list_of parts) then each_by param_member (list_of parts) ts else []
list_members ts type = []

-- the types in a list of parameters or results
abbrev pub types_of : TypeData → List TypeData
types_of (made head parts) = types.list_of parts

abbrev pub signature_members : Tree → Parts → List Member
signature_members signature (more_parts params (more_parts results no_parts)) =
    list_members (types_of params) (first_part signature) ++ flat_map (list_members (types_of results)) (all_but_first (parts_of signature))
signature_members signature parts = []

-- METHODS OF INTERFACES

-- a method, and its parameters and results; an element that is a union declares none
abbrev pub elem_members : Tree → TypeData → List Member
elem_members (branch id from to MethodElem text (more_trees name (more_trees signature no_trees))) (made (method m) parts) =
    (name, function (made (types.function m.variadic) parts)) ∷ signature_members signature parts
elem_members elem part = []

-- those of a type literal, by the type for which it stands
abbrev pub members_of : Tree → TypeData → List Member
members_of (branch id from to StructType text fields) (made struct_type parts) = each_by field_member (flat_map field_names (list_of fields)) (types.list_of parts)
members_of (branch id from to InterfaceType text elems) (made interface_type parts) = each_by elem_members (list_of elems) (types.list_of parts)
members_of (branch id from to FuncType text (more_trees signature others)) (made (types.function variadic) parts) = signature_members signature parts
members_of t type = []
