use Rattle.std.proofs.Common.{◌≡◌, sym, ap, ◌∙◌}
use Rattle.std.proofs.lemmas.Result.{IfOk-weaker}
use Rattle.go_judge.specs.Records.{rec_as}
use Rattle.go_judge.specs.View.{outcome_as}
use Rattle.go_judge.specs.Quests.{Decided, run}
use Rattle.go_judge.proofs.OwnDataLemmas.{rec_agrees}
use Rattle.go_ops.specs.AskedSorts.{sort_as}
use Rattle.go_constructs.specs.Operators.Sorts.{sort_in}
use Rattle.go_ops.specs.Stages.{first_outcome}
use Rattle.go_ops.proofs.OperationLemmas.{operation-told, operation-waits}
use Rattle.go_ops.proofs.ReadyLemmas.{are-of}
use Rattle.go_ops.proofs.operation.operation.Goals as goal

pub of_first-requires-clause-known : goal.of_first-requires-clause-known
of_first-requires-clause-known g c = λ t told.
    let old = c.args.judge.now in
    let headers = g.J.Ask.headers old in
    let tree = g.J.Ask.tree old in
    let kept = c.in_ok-s.ensures.keeps in
    let same : g.J.Ask.headers c.sort_in.new.judge ≡ headers = kept.same in
    let second = rec_agrees (g.J.Ask.is_type old) tree (g.J.Ask.tree c.sort_in.new.judge) kept.kept.trees c.args.y.now c.requires.second in
    are-of headers tree c.args.x.now c.args.y.now c.in-Is.s t c.requires.honest_first c.requires.honest_second
    (sym c.in_ok-s.ensures.sort ∙ ap sort_as c.in-Is.is) ((λ i. run (sym same i) (sort_in (sym second i))) ∙ told)

pub returns-in-Is-clause-outcome : goal.returns-in-Is-clause-outcome
returns-in-Is-clause-outcome g c =
    let old = c.args.judge.now in
    let headers = g.J.Ask.headers old in
    let tree = g.J.Ask.tree old in
    let x = rec_as tree c.args.x.now in
    let y = rec_as tree c.args.y.now in
    let kept = c.in_ok-s.ensures.keeps in
    let same : g.J.Ask.headers c.sort_in.new.judge ≡ headers = kept.same in
    let first = rec_agrees (g.J.Ask.is_type old) tree (g.J.Ask.tree c.sort_in.new.judge) kept.kept.trees c.args.x.now c.requires.first in
    let second = rec_agrees (g.J.Ask.is_type old) tree (g.J.Ask.tree c.sort_in.new.judge) kept.kept.trees c.args.y.now c.requires.second in
    let told : run headers (sort_in x) ≡ Decided c.in-Is.s = sym c.in_ok-s.ensures.sort ∙ ap sort_as c.in-Is.is in
    IfOk-weaker c.of_first.result _ _
    (λ outcome is.
    operation-told headers c.args.op x y c.in-Is.s (outcome_as (g.J.Ask.tree c.of_first.new.judge) outcome) told
    (is ∙ (λ i. first_outcome (same i) c.args.op (first i) (second i) c.in-Is.s)))
    c.of_first.ensures.outcome

pub returns-in-Unknown-clause-outcome : goal.returns-in-Unknown-clause-outcome
returns-in-Unknown-clause-outcome g c =
    let tree = g.J.Ask.tree c.args.judge.now in
    operation-waits (g.J.Ask.headers c.args.judge.now) c.args.op (rec_as tree c.args.x.now) (rec_as tree c.args.y.now) c.in-Unknown.d.0
    (sym c.in_ok-s.ensures.sort ∙ ap sort_as c.in-Unknown.is)
