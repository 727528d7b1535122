use Rattle.std.proofs.Common.{◌≡◌, ◌++◌, map, drop}
use Rattle.std.specs.List.{flat_map}
use Rattle.go_tree.specs.Tree.{tree_of}
use Rattle.go_module.specs.Names.Rules.MemberRules as rule
use Rattle.go_names.specs.Views.{trees_at}
use Rattle.go_names.proofs.member_names.names_of_fields.Given as goal

-- what is pushed, with the names of the fields left, are those of all fields
abbrev pub invariant-loop-field : goal.invariant-loop-field
invariant-loop-field l = trees_at l.names.items ++ flat_map rule.field_names (map tree_of (drop l.field-index l.fields)) ≡ flat_map rule.field_names (map tree_of l.fields)
