use Rattle.std.proofs.Common.{map, sym, ap, ◌∙◌}
use Rattle.go_judge.specs.Judged.{outcome_at}
use Rattle.go_judge.specs.View.{outcome_as}
use Rattle.go_expr.specs.Given.{with_one}
use Rattle.go_expr.proofs.GivenLemmas.{together-more}
use Rattle.go_expr.proofs.given.first_records.Goals as goal

pub loop-place-preserved : goal.loop-place-preserved
loop-place-preserved g c =
    let tree = g.J.Ask.tree c.args.judge.now in
    let next = outcome_at (map (outcome_as tree) c.args.outcomes.now) c.loop-place.place in
    record {
      given = c.in_ok-given.ensures.given
          ∙ ap (λ rs. with_one rs next) c.loop-place.invariant.given
          ∙ sym (together-more tree c.args.outcomes.now c.loop-place.place);
      own = c.in_ok-given.ensures.own;
    }
