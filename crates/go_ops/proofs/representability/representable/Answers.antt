use Rattle.std.proofs.Common.{sym, ap, ◌∙◌}
use Rattle.go_judge.specs.Quests.{Decided, Done}
use Rattle.go_judge.proofs.QuestLemmas.{run-then, run-then-Lacks}
use Rattle.go_ops.specs.AskedSorts.{sort_as}
use Rattle.go_constructs.specs.Operators.Representable.{fit_of}
use Rattle.go_constructs.specs.Operators.Sorts.{sort_of}
use Rattle.go_ops.proofs.representability.representable.Goals as goal

pub returns-in-Is-clause-fit : goal.returns-in-Is-clause-fit
returns-in-Is-clause-fit g c =
    let old = c.args.judge.now in
    let is = sym c.in_ok-sort.ensures.sort ∙ ap sort_as c.in-Is.is in
    ap Decided c.fit_of.ensures ∙ sym (run-then (g.F.Ask.headers old) (sort_of (g.F.Ask.tree old c.args.t.now)) (λ s. Done (fit_of c.args.v.now s)) c.in-Is.sort is)

pub returns-in-Unknown-clause-fit : goal.returns-in-Unknown-clause-fit
returns-in-Unknown-clause-fit g c =
    let old = c.args.judge.now in
    let is = sym c.in_ok-sort.ensures.sort ∙ ap sort_as c.in-Unknown.is in
    sym (run-then-Lacks (g.F.Ask.headers old) (sort_of (g.F.Ask.tree old c.args.t.now)) (λ s. Done (fit_of c.args.v.now s)) c.in-Unknown.d.0 is)
