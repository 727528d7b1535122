use Rattle.std.proofs.Common.{sym, ap, ◌∙◌}
use Rattle.std.proofs.lemmas.Result.{IfOk-weaker}
use Rattle.go_judge.specs.Records.{rec_as}
use Rattle.go_judge.specs.Quests.{Decided, run}
use Rattle.go_judge.proofs.OwnDataLemmas.{rec_agrees}
use Rattle.go_ops.specs.AskedSorts.{sort_as}
use Rattle.go_ops.specs.Shifted.{outcome_by_first}
use Rattle.go_constructs.specs.Operators.Sorts.{sort_in}
use Rattle.go_ops.proofs.ShiftLemmas.{shift-found}
use Rattle.go_ops.proofs.shift.shift_of_values.Goals as goal

pub returns-in-Is-clause-outcome : goal.returns-in-Is-clause-outcome
returns-in-Is-clause-outcome g c =
    let old = c.args.judge.now in
    let tree = g.J.Ask.tree old in
    let headers = g.J.Ask.headers old in
    let keeps = c.in_ok-sort.ensures.keeps in
    let agrees = rec_agrees (g.J.Ask.is_type old) tree (g.J.Ask.tree c.sort_in.new.judge) keeps.kept.trees in
    let x = agrees c.args.a.now c.requires.first in
    let y = agrees c.args.b.now c.requires.second in
    let sort = sym (ap sort_as c.in-Is.is) ∙ c.in_ok-sort.ensures.sort in
    IfOk-weaker c.shift_of_sort.result _ _
    (λ outcome is.
    is
    ∙ (λ i. outcome_by_first c.args.left (x i) (y i) (Decided c.in-Is.sort) (run (keeps.same i) (sort_in (y i))))
    ∙ ap (λ s. outcome_by_first c.args.left (rec_as tree c.args.a.now) (rec_as tree c.args.b.now) s (run headers (sort_in (rec_as tree c.args.b.now)))) sort
    ∙ shift-found headers c.args.left (rec_as tree c.args.a.now) (rec_as tree c.args.b.now))
    c.shift_of_sort.ensures.outcome

pub returns-in-Unknown-clause-outcome : goal.returns-in-Unknown-clause-outcome
returns-in-Unknown-clause-outcome g c =
    let old = c.args.judge.now in
    let tree = g.J.Ask.tree old in
    let headers = g.J.Ask.headers old in
    let x = rec_as tree c.args.a.now in
    let y = rec_as tree c.args.b.now in
    let sort = sym (ap sort_as c.in-Unknown.is) ∙ c.in_ok-sort.ensures.sort in
    ap (λ s. outcome_by_first c.args.left x y s (run headers (sort_in y))) sort ∙ shift-found headers c.args.left x y
