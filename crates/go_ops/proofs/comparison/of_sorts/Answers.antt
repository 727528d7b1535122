use Rattle.std.proofs.Common.{◌≡◌, true, sym, ap, ◌∙◌}
use Rattle.std.proofs.lemmas.Result.{IfOk-weaker}
use Rattle.go_judge.specs.Records.{rec_as}
use Rattle.go_judge.specs.View.{outcome_as}
use Rattle.go_judge.specs.Types.Forms.{answer_as}
use Rattle.go_judge.specs.Quests.{Decided, run}
use Rattle.go_judge.proofs.OwnDataLemmas.{rec_agrees}
use Rattle.go_ops.specs.ComparisonStages.{matched_comparison}
use Rattle.go_constructs.specs.Operators.Matching.{match_by}
use Rattle.go_ops.proofs.ComparisonLemmas.{sorts-yes}
use Rattle.go_ops.proofs.comparison.of_sorts.Goals as goal

pub returns-in-Yes-clause-outcome : goal.returns-in-Yes-clause-outcome
returns-in-Yes-clause-outcome g c =
    let old = c.args.judge.now in
    let tree = g.J.Ask.tree old in
    let x = rec_as tree c.args.x.now in
    let y = rec_as tree c.args.y.now in
    let kept = c.in_ok-matches.ensures.keeps in
    let first = rec_agrees (g.J.Ask.is_type old) tree (g.J.Ask.tree c.matches.new.judge) kept.kept.trees c.args.x.now c.requires.first in
    let second = rec_agrees (g.J.Ask.is_type old) tree (g.J.Ask.tree c.matches.new.judge) kept.kept.trees c.args.y.now c.requires.second in
    let yes : Decided true ≡ run (g.J.Ask.headers old) (match_by x y c.args.s c.args.t) = sym (ap answer_as c.in-Yes.is) ∙ c.in_ok-matches.ensures.answer in
    IfOk-weaker c.of_matched.result _ _
    (λ outcome is.
    sorts-yes (g.J.Ask.headers old) c.args.op x y c.args.s c.args.t (outcome_as (g.J.Ask.tree c.of_matched.new.judge) outcome) yes
    (is ∙ (λ i. matched_comparison c.args.op (first i) (second i) c.args.s c.args.t)))
    c.of_matched.ensures.outcome
