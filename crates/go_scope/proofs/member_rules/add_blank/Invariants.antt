use Rattle.std.proofs.Common.{◌≡◌, ◌++◌, drop}
use Rattle.go_module.specs.Names.Rules.MemberRules as rules
use Rattle.go_names.specs.Views.{trees_at}
use Rattle.go_scope.proofs.member_rules.add_blank.Given as goal

-- what is found, with what is told at the names left, is what is told at all
abbrev pub invariant-loop-name : goal.invariant-loop-name
invariant-loop-name l = l.found.items ++ rules.blank l.spec.file l.spec.told_at rules.repeated_member (trees_at (drop l.name-index l.names)) ≡ l.fn.found.items ++ rules.blank l.spec.file l.spec.told_at rules.repeated_member (trees_at l.names)
