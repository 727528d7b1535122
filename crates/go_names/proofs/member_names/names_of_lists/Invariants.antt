use Rattle.std.proofs.Common.{◌≡◌, ◌++◌, map, drop}
use Rattle.std.specs.List.{flat_map}
use Rattle.go_tree.specs.Tree.{tree_of}
use Rattle.go_module.specs.Names.Rules.MemberRules as rule
use Rattle.go_names.specs.Views.{trees_at}
use Rattle.go_names.proofs.member_names.names_of_lists.Given as goal

-- what is pushed, with the names of the parts left, are those of all parts
abbrev pub invariant-loop-part : goal.invariant-loop-part
invariant-loop-part l = trees_at l.names.items ++ flat_map rule.list_names (map tree_of (drop l.part-index l.parts)) ≡ flat_map rule.list_names (map tree_of l.parts)
