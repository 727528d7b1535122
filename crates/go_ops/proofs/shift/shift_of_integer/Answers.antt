use Rattle.std.proofs.Common.{sym, ap, ◌∙◌}
use Rattle.std.proofs.lemmas.Result.{IfOk-weaker}
use Rattle.go_judge.specs.Records.{rec_as}
use Rattle.go_judge.specs.Quests.{Decided}
use Rattle.go_judge.proofs.OwnDataLemmas.{rec_agrees}
use Rattle.go_ops.specs.AskedSorts.{sort_as}
use Rattle.go_ops.specs.Shifted.{outcome_by_second}
use Rattle.go_ops.proofs.SortLemmas.{sort-fits}
use Rattle.go_ops.proofs.shift.shift_of_integer.Goals as goal

pub shift_by-requires-clause-fits : goal.shift_by-requires-clause-fits
shift_by-requires-clause-fits g c =
    let y = rec_as (g.J.Ask.tree c.args.judge.now) c.args.b.now in
    sort-fits (g.J.Ask.headers c.args.judge.now) y c.in-Is.second c.requires.honest (sym c.in_ok-second.ensures.sort ∙ ap sort_as c.in-Is.is)

pub returns-in-Is-clause-outcome : goal.returns-in-Is-clause-outcome
returns-in-Is-clause-outcome g c =
    let old = c.args.judge.now in
    let tree = g.J.Ask.tree old in
    let agrees = rec_agrees (g.J.Ask.is_type old) tree (g.J.Ask.tree c.sort_in.new.judge) c.in_ok-second.ensures.keeps.kept.trees in
    let x = agrees c.args.a.now c.requires.first in
    let y = agrees c.args.b.now c.requires.second in
    let sort = sym (ap sort_as c.in-Is.is) ∙ c.in_ok-second.ensures.sort in
    IfOk-weaker c.shift_by.result _ _
    (λ outcome is.
    is
    ∙ (λ i. outcome_by_second c.args.left (x i) (y i) c.args.sort (Decided c.in-Is.second))
    ∙ ap (outcome_by_second c.args.left (rec_as tree c.args.a.now) (rec_as tree c.args.b.now) c.args.sort) sort)
    c.shift_by.ensures.outcome
