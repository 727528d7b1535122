-- Names that type literals declare, as the code finds them: by the parts of a node, and by the type.
use Rattle.std.specs.Prelude.{List, [], ◌∷◌}
use Rattle.std.specs.List.{flat_map}
use Rattle.go_tree.specs.Tree.{Tree}
use Rattle.go_module.specs.Names.Rules.MemberRules.{field_names}
use Rattle.go_term.specs.Types as types
use Rattle.go_term.specs.Types.{TypeData, interface_type, made, method, struct_type}
use Rattle.go_report.specs.Members.{Member, each_by, elem_members, field_member, signature_members}
use Rattle.go_report.specs.Report.{function, variable}

-- those of a struct with these fields
abbrev pub struct_members : List Tree → TypeData → List Member
struct_members fields (made struct_type parts) =
    each_by field_member (flat_map field_names fields) (types.list_of parts)
struct_members fields type = []

-- those of an interface with these elements
abbrev pub interface_members : List Tree → TypeData → List Member
interface_members elems (made interface_type parts) = each_by elem_members elems (types.list_of parts)
interface_members elems type = []

-- those of a function whose signature is the first of these parts
abbrev pub function_members : List Tree → TypeData → List Member
function_members (signature ∷ others) (made (types.function variadic) parts) = signature_members signature parts
function_members [] type = []
function_members ts type = []

-- a method with this name and this signature, and its parameters and results
abbrev pub method_members : Tree → Tree → TypeData → List Member
method_members name signature (made (method m) parts) =
    (name, function (made (types.function m.variadic) parts)) ∷ signature_members signature parts
method_members name signature part = []

-- a parameter or result whose name is the first of these parts
abbrev pub variable_members : List Tree → TypeData → List Member
variable_members [] type = []
variable_members (name ∷ others) type = (name, variable type) ∷ []
