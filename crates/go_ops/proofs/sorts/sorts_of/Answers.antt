use Rattle.std.proofs.Common.{sym, ap, ◌∙◌}
use Rattle.std.proofs.lemmas.Result.{IfOk-weaker}
use Rattle.go_judge.specs.Records.{rec_as}
use Rattle.go_judge.specs.Quests.{Done, run, then_ask}
use Rattle.go_judge.proofs.OwnDataLemmas.{rec_agrees}
use Rattle.go_judge.proofs.QuestLemmas.{run-then, run-then-Lacks}
use Rattle.go_ops.specs.AskedSorts.{sort_as}
use Rattle.go_constructs.specs.Operators.Sorts.{sort_in}
use Rattle.go_ops.proofs.sorts.sorts_of.Goals as goal

pub returns-in-Is-clause-sorts : goal.returns-in-Is-clause-sorts
returns-in-Is-clause-sorts g c =
    let headers = g.F.Ask.headers c.args.judge.now in
    let tree = g.F.Ask.tree c.args.judge.now in
    let x = rec_as tree c.args.x.now in
    let y = rec_as tree c.args.y.now in
    let asked = c.in_ok-first.ensures in
    let is = sym asked.sort ∙ ap sort_as c.in-Is.is in
    let second = rec_agrees (g.F.Ask.is_type c.args.judge.now) tree (g.F.Ask.tree c.sort_in.new.judge) asked.keeps.kept.trees c.args.y.now c.requires.second in
    IfOk-weaker c.sorts_with.result _ _
    (λ sorts told.
    told
    ∙ (λ i. run (asked.keeps.same i) (then_ask (sort_in (second i)) (λ t. Done (c.in-Is.first, t))))
    ∙ sym (run-then headers (sort_in x) (λ s. then_ask (sort_in y) (λ t. Done (s, t))) c.in-Is.first is))
    c.sorts_with.ensures.sorts

pub returns-in-Unknown-clause-sorts : goal.returns-in-Unknown-clause-sorts
returns-in-Unknown-clause-sorts g c =
    let headers = g.F.Ask.headers c.args.judge.now in
    let tree = g.F.Ask.tree c.args.judge.now in
    let is = sym c.in_ok-first.ensures.sort ∙ ap sort_as c.in-Unknown.is in
    sym (run-then-Lacks headers (sort_in (rec_as tree c.args.x.now)) (λ s. then_ask (sort_in (rec_as tree c.args.y.now)) (λ t. Done (s, t))) c.in-Unknown.d.0 is)
