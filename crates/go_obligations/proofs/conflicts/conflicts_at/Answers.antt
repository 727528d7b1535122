use Rattle.std.proofs.Common.{◌∙◌, ap}
use Rattle.std.proofs.lemmas.Result.{IfOk-weaker}
use Rattle.go_obligations.specs.Conflicts.{conflicts, differ}
use Rattle.go_obligations.proofs.ConflictLemmas.{asked_at}
use Rattle.go_obligations.proofs.conflicts.conflicts_at.Goals as goal

pub returns-clause-conflict : goal.returns-clause-conflict
returns-clause-conflict g c =
    let judge = c.args.judge.now in
    let apart = differ (g.J.Ask.headers judge) (g.J.Ask.tree judge) in
    let method = c.index-methods-place.result in
    let first = c.index-methods-at.result in
    IfOk-weaker c.conflicts.result _ _
    (λ r h. asked_at apart c.args.methods.now c.args.firsts.now.entries c.args.place c.in_ok-at.at method first c.requires.within c.index-methods-place.is c.in_ok-at.ensures.within c.index-methods-at.is
    c.in_ok-at.ensures.found r (h ∙ ap (λ further. conflicts apart c.args.methods.now first further method) c.is_further-further.ensures))
    c.conflicts.ensures.conflict
