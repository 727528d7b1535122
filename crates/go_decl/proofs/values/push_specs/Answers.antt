use Rattle.std.proofs.Common.{arith}
use Rattle.go_values.specs.Rules.{broken_spec_by}
use Rattle.go_names.specs.Views.{spec_view}
use Rattle.go_expr.specs.Read.{outcome_read}
use Rattle.go_decl.proofs.ListLemmas.{drop-step, one_more}
use Rattle.go_decl.proofs.values.push_specs.Goals as goal

pub loop-spec-preserved : goal.loop-spec-preserved
loop-spec-preserved g c =
    one_more (broken_spec_by (outcome_read (g.W.Ask.outcomes c.args.walks.now))) spec_view c.args.specs.now c.loop-spec.spec-index c.spec-item.result c.loop-spec.found.items c.push_spec.new.found.items _
    (drop-step c.args.specs.now c.loop-spec.spec-index c.spec-item.result (omega arith) c.spec-item.is) c.in_ok-push_spec.ensures c.loop-spec.invariant
