use Rattle.std.proofs.Common.{◌≡◌, ◌++◌, drop}
use Rattle.std.specs.List.{flat_map}
use Rattle.go_names.specs.Views.{trees_at}
use Rattle.go_scope.proofs.MemberLemmas.{several_at}
use Rattle.go_scope.proofs.member_rules.add_several.Given as goal

-- what is found, with what is told at the names left, is what is told at all
abbrev pub invariant-loop-name : goal.invariant-loop-name
invariant-loop-name l = l.found.items ++ flat_map (several_at l.spec.file l.spec.told_at l.rule (trees_at l.names)) (trees_at (drop l.name-index l.names)) ≡ l.fn.found.items ++ flat_map (several_at l.spec.file l.spec.told_at l.rule (trees_at l.names)) (trees_at l.names)
