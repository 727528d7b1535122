use Rattle.std.proofs.Common.{◌≡◌, ◌++◌, map, drop}
use Rattle.std.specs.List.{flat_map}
use Rattle.go_tree.specs.Tree.{tree_of}
use Rattle.go_module.specs.Names.Rules.MemberRules as rule
use Rattle.go_names.specs.Views.{trees_at}
use Rattle.go_names.proofs.member_names.names_of_methods.Given as goal

-- what is pushed, with the names of the elements left, are those of all elements
abbrev pub invariant-loop-elem : goal.invariant-loop-elem
invariant-loop-elem l = trees_at l.names.items ++ flat_map rule.method_names (map tree_of (drop l.elem-index l.elems)) ≡ flat_map rule.method_names (map tree_of l.elems)
