use Rattle.std.proofs.Common.{◌≡◌, ◌++◌, ◌∙◌, subst, arith}
use Rattle.std.specs.List.{flat_map}
use Rattle.go_term.specs.View.{type_of}
use Rattle.go_judge.specs.Headers.{Headers}
use Rattle.go_judge.specs.HeadersView.{headers_view}
use Rattle.go_names.specs.Views.{spec_view, specs_view}
use Rattle.go_expr.specs.Read.{outcome_read}
use Rattle.go_expr.specs.Walker.{outcomes_view}
use Rattle.go_final.specs.Ends.{finals_as}
use Rattle.go_report.specs.Finals.Nodes.{finals_in_spec}
use Rattle.go_decl.proofs.ListLemmas.{drop-step, one_more}
use Rattle.go_check.proofs.finals.push_specs.Goals as goal

pub loop-spec-preserved : goal.loop-spec-preserved
loop-spec-preserved c =
    let inv = c.loop-spec.invariant in
    let place = c.loop-spec.spec-index in
    let specs = c.args.specs.now in
    let spec = c.spec-item.result in
    let read = outcome_read (outcomes_view c.args.walker.now) in
    let each = finals_in_spec (headers_view c.args.judge.now.headers) read in
    let old = finals_as type_of c.loop-spec.list.items in
    let new = finals_as type_of c.push_spec.new.list.items in
    let whole = finals_as type_of c.args.list.now.items ++ flat_map each (specs_view specs) in
    let found : new ≡ old ++ each (spec_view spec) =
    subst (λ (known : Headers). new ≡ old ++ finals_in_spec known read (spec_view spec)) inv.headers c.in_ok-push_spec.ensures.finals in
    record {
      finals = one_more each spec_view specs place spec old new whole (drop-step specs place spec (omega arith) c.spec-item.is) found inv.finals;
      headers = c.push_spec.ensures.headers ∙ inv.headers;
      standing = c.push_spec.ensures.standing ∙ inv.standing;
    }
