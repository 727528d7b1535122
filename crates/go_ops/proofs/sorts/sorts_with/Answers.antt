use Rattle.std.proofs.Common.{sym, ap, ◌∙◌}
use Rattle.go_judge.specs.Records.{rec_as}
use Rattle.go_judge.specs.Quests.{Done}
use Rattle.go_judge.proofs.QuestLemmas.{run-then, run-then-Lacks}
use Rattle.go_ops.specs.AskedSorts.{sort_as}
use Rattle.go_constructs.specs.Operators.Sorts.{sort_in}
use Rattle.go_ops.proofs.sorts.sorts_with.Goals as goal

pub returns-in-Is-clause-sorts : goal.returns-in-Is-clause-sorts
returns-in-Is-clause-sorts g c =
    let old = c.args.judge.now in
    let is = sym c.in_ok-second.ensures.sort ∙ ap sort_as c.in-Is.is in
    sym (run-then (g.F.Ask.headers old) (sort_in (rec_as (g.F.Ask.tree old) c.args.y.now)) (λ second. Done (c.args.first, second)) c.in-Is.second is)

pub returns-in-Unknown-clause-sorts : goal.returns-in-Unknown-clause-sorts
returns-in-Unknown-clause-sorts g c =
    let old = c.args.judge.now in
    let is = sym c.in_ok-second.ensures.sort ∙ ap sort_as c.in-Unknown.is in
    sym (run-then-Lacks (g.F.Ask.headers old) (sort_in (rec_as (g.F.Ask.tree old) c.args.y.now)) (λ second. Done (c.args.first, second)) c.in-Unknown.d.0 is)
