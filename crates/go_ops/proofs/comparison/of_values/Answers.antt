use Rattle.std.proofs.Common.{◌≡◌, sym, ap, ◌∙◌}
use Rattle.std.proofs.lemmas.Result.{IfOk-weaker}
use Rattle.go_judge.specs.Records.{rec_as}
use Rattle.go_judge.specs.Quests.{Decided, run}
use Rattle.go_judge.proofs.OwnDataLemmas.{rec_agrees}
use Rattle.go_ops.specs.AskedSorts.{sorts_as}
use Rattle.go_ops.specs.ComparisonStages.{sorts_comparison, values_comparison}
use Rattle.go_constructs.specs.Operators.Sorts.{sorts_of}
use Rattle.go_ops.proofs.comparison.of_values.Goals as goal

pub returns-in-Are-clause-outcome : goal.returns-in-Are-clause-outcome
unfolding values_comparison
returns-in-Are-clause-outcome g c =
    let old = c.args.judge.now in
    let headers = g.J.Ask.headers old in
    let tree = g.J.Ask.tree old in
    let x = rec_as tree c.args.x.now in
    let y = rec_as tree c.args.y.now in
    let kept = c.in_ok-s.ensures.keeps in
    let first = rec_agrees (g.J.Ask.is_type old) tree (g.J.Ask.tree c.sorts_of.new.judge) kept.kept.trees c.args.x.now c.requires.first in
    let second = rec_agrees (g.J.Ask.is_type old) tree (g.J.Ask.tree c.sorts_of.new.judge) kept.kept.trees c.args.y.now c.requires.second in
    let same : g.J.Ask.headers c.sorts_of.new.judge ≡ headers = kept.same in
    let told : Decided (c.in-Are.s, c.in-Are.t) ≡ run headers (sorts_of x y) = sym (ap sorts_as c.in-Are.is) ∙ c.in_ok-s.ensures.sorts in
    IfOk-weaker c.of_sorts.result _ _
    (λ outcome is.
    is
    ∙ (λ i. sorts_comparison (same i) c.args.op (first i) (second i) c.in-Are.s c.in-Are.t)
    ∙ (λ i. values_comparison headers c.args.op x y (told i)))
    c.of_sorts.ensures.outcome
