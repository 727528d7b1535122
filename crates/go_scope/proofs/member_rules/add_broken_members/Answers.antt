use Rattle.std.proofs.Common.{arith}
use Rattle.go_module.specs.Names.Rules.MemberRules.{broken_in_spec}
use Rattle.go_names.specs.Views.{spec_view}
use Rattle.go_scope.proofs.ListLemmas.{left_step}
use Rattle.go_scope.proofs.member_rules.add_broken_members.Goals as goal

pub loop-spec-preserved : goal.loop-spec-preserved
loop-spec-preserved c =
    left_step spec_view broken_in_spec c.args.specs.now c.loop-spec.spec-index c.spec-item.result c.loop-spec.found.items c.add_broken_in_spec.new.found.items _ (omega arith) c.spec-item.is c.loop-spec.invariant c.in_ok-add_broken_in_spec.ensures
