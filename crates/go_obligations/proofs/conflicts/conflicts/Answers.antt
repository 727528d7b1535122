use Rattle.std.proofs.Common.{◌∙◌, sym}
use Rattle.std.proofs.lemmas.Result.{IfOk-weaker}
use Rattle.go_obligations.specs.Conflicts.{differ, differs_from_any}
use Rattle.go_obligations.proofs.ConflictLemmas.{any_kept, asked_last}
use Rattle.go_obligations.proofs.conflicts.conflicts.Goals as goal

pub returns-clause-conflict : goal.returns-clause-conflict
returns-clause-conflict g c =
    let judge = c.args.judge.now in
    let apart = differ (g.J.Ask.headers judge) (g.J.Ask.tree judge) in
    let keeps = c.in_ok-differ.ensures.keeps in
    let none = sym c.in_ok-differ.ensures.differ ∙ c.if-branch.false in
    IfOk-weaker c.differs_from_any.result _ _
    (λ r h. h ∙ any_kept keeps.kept (g.J.Ask.headers judge) (g.J.Ask.headers c.differ.new.judge) keeps.same c.args.method.now c.requires.own_method.0 c.args.methods.now c.requires.own
    ∙ asked_last (apart c.args.first.now c.args.method.now) c.args.further (differs_from_any apart c.args.methods.now c.args.method.now) none c.if-not-further.false)
    c.differs_from_any.ensures.conflict
