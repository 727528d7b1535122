use Rattle.std.proofs.Common.{◌≡◌, ◌++◌, map, drop}
use Rattle.std.specs.List.{flat_map}
use Rattle.go_tree.specs.Tree.{tree_of}
use Rattle.go_module.specs.Names.Rules.MemberRules as rule
use Rattle.go_names.specs.Views.{trees_at}
use Rattle.go_names.proofs.member_names.push_param_names.Given as goal

-- what is pushed, with the names of the parameters left, are those of all
abbrev pub invariant-loop-param : goal.invariant-loop-param
invariant-loop-param l = trees_at l.names.items ++ flat_map rule.param_names (map tree_of (drop l.param-index l.params)) ≡ trees_at l.fn.names.items ++ flat_map rule.param_names (map tree_of l.params)
