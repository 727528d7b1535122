use Rattle.std.proofs.Common.{◌≡◌, sym, ap, ◌∙◌}
use Rattle.std.proofs.lemmas.Result.{IfOk-weaker}
use Rattle.go_judge.specs.Records.{rec_as}
use Rattle.go_judge.specs.Quests.{Decided, run}
use Rattle.go_judge.proofs.OwnDataLemmas.{rec_agrees}
use Rattle.go_ops.specs.AskedSorts.{sort_as}
use Rattle.go_constructs.specs.Operators.Sorts.{sort_in}
use Rattle.go_ops.specs.Stages.{second_outcome}
use Rattle.go_ops.proofs.operation.of_second.Goals as goal

pub of_sorts-requires-clause-known : goal.of_sorts-requires-clause-known
of_sorts-requires-clause-known g c = c.requires.known c.in-Is.t (sym c.in_ok-t.ensures.sort ∙ ap sort_as c.in-Is.is)

pub returns-in-Is-clause-outcome : goal.returns-in-Is-clause-outcome
returns-in-Is-clause-outcome g c =
    let old = c.args.judge.now in
    let headers = g.J.Ask.headers old in
    let tree = g.J.Ask.tree old in
    let x = rec_as tree c.args.x.now in
    let y = rec_as tree c.args.y.now in
    let kept = c.in_ok-t.ensures.keeps in
    let first = rec_agrees (g.J.Ask.is_type old) tree (g.J.Ask.tree c.sort_in.new.judge) kept.kept.trees c.args.x.now c.requires.first in
    let second = rec_agrees (g.J.Ask.is_type old) tree (g.J.Ask.tree c.sort_in.new.judge) kept.kept.trees c.args.y.now c.requires.second in
    let same : g.J.Ask.headers c.sort_in.new.judge ≡ headers = kept.same in
    let told : Decided c.in-Is.t ≡ run headers (sort_in y) = sym (ap sort_as c.in-Is.is) ∙ c.in_ok-t.ensures.sort in
    IfOk-weaker c.of_sorts.result _ _
    (λ outcome is.
    is
    ∙ (λ i. second_outcome (same i) c.args.op (first i) (second i) c.args.s (Decided c.in-Is.t))
    ∙ (λ i. second_outcome headers c.args.op x y c.args.s (told i)))
    c.of_sorts.ensures.outcome
