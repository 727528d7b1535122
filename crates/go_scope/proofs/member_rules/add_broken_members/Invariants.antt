use Rattle.std.proofs.Common.{◌≡◌, ◌++◌, drop}
use Rattle.std.specs.List.{flat_map}
use Rattle.go_module.specs.Names.Rules.MemberRules as rules
use Rattle.go_names.specs.Views.{specs_view}
use Rattle.go_scope.proofs.member_rules.add_broken_members.Given as goal

-- what is found, with what the specs left break, is what all break
abbrev pub invariant-loop-spec : goal.invariant-loop-spec
invariant-loop-spec l = l.found.items ++ flat_map rules.broken_in_spec (specs_view (drop l.spec-index l.specs)) ≡ l.fn.found.items ++ flat_map rules.broken_in_spec (specs_view l.specs)
