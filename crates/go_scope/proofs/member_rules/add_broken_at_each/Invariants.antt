use Rattle.std.proofs.Common.{◌≡◌, ◌++◌, drop}
use Rattle.std.specs.List.{flat_map}
use Rattle.go_module.specs.Names.Rules.MemberRules as rules
use Rattle.go_names.specs.Views.{trees_at}
use Rattle.go_scope.proofs.member_rules.add_broken_at_each.Given as goal

-- what is found, with what the nodes left break, is what all break
abbrev pub invariant-loop-node : goal.invariant-loop-node
invariant-loop-node l = l.found.items ++ flat_map (rules.broken_members l.spec.file l.spec.told_at) (trees_at (drop l.node-index l.nodes)) ≡ l.fn.found.items ++ flat_map (rules.broken_members l.spec.file l.spec.told_at) (trees_at l.nodes)
