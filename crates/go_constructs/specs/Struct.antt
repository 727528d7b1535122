-- Struct types (Go specification).
-- Decides what is asked of a struct with these field declarations in the package of this path, which has so many
-- operands: the types of its fields, in source order. StructType = "struct" "{" { FieldDecl ";" } "}" . Which types may be
-- embedded is left to `Obliged`.
use Rattle.std.specs.Prelude.{ℕ, Bool, true, false, List, [], find, map, option_and_then, unwrap_or}
use Rattle.std.specs.List.{flat_map, zip}
use Rattle.go_tree.specs.declared.node_kind.NodeKind.{NodeKind}
use Rattle.go_tree.specs.declared.node_kind.NodeKind.TheVariants.{EmbeddedField, EmbeddedPointer}
use Rattle.go_tree.specs.Tree.{Tree, id_of, kind_of, list_of, parts_of, text_of}
use Rattle.go_scan.specs.StringTexts.{string_of}
use Rattle.go_module.specs.Names.Declarations.{name_text}
use Rattle.go_module.specs.Names.Inner.{is_tag_kind}
use Rattle.go_module.specs.Names.Rules.MemberRules.{field_names}
use Rattle.go_term.specs.Types.{TypeData, field, of_list, of_one as part_of_one, struct_type}
use Rattle.go_judge.specs.Limits.{makes_of}
use Rattle.go_judge.specs.Judged.{Construct}
use Rattle.go_judge.specs.Operands.{of_all, type_or_none}
use Rattle.go_judge.specs.Records.{HeaderData, RecData}

-- Tag = string_lit . "an empty tag string is equivalent to an absent tag"
abbrev pub tag_in : Tree → List ℕ
tag_in decl = unwrap_or (option_and_then (λ tag. string_of (text_of tag)) (find (λ t. is_tag_kind (kind_of t)) (list_of (parts_of decl)))) []

-- EmbeddedField = [ "*" ] TypeName [ TypeArgs ] .
abbrev pub is_embedded : NodeKind → Bool
is_embedded EmbeddedField = true
is_embedded EmbeddedPointer = true
is_embedded kind = false

-- a field with this name, in the package of this path
abbrev pub field_by : List ℕ → Tree → TypeData → Tree → TypeData
field_by home decl type name =
    part_of_one (field (record { object = record { 0 = id_of name }; name = name_text name; «package» = home; embedded = is_embedded (kind_of decl); tag = tag_in decl })) type

-- FieldDecl = ( IdentifierList Type | EmbeddedField ) [ Tag ] . The fields that one declares, by its type
abbrev pub fields_by : List ℕ → Tree → TypeData → List TypeData
fields_by home decl type = map (field_by home decl type) (field_names decl)

abbrev pub fields_in : List ℕ → List Tree → List TypeData → List TypeData
fields_in home decls types = flat_map (λ pair. fields_by home pair.0 pair.1) (zip decls types)

abbrev pub struct_of : List ℕ → ℕ → List Tree → Construct HeaderData RecData
struct_of home many decls = of_all many
    (λ rs. makes_of rs (of_list struct_type (fields_in home decls (map type_or_none rs))))
