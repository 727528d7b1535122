use Rattle.std.proofs.lemmas.Result.{on_ok_weaker}
use Rattle.go_obligations.proofs.SearchLemmas.{underlying-pushed}
use Rattle.go_obligations.proofs.embedded.push_underlying.Goals as goal

pub returns-clause-pushed : goal.returns-clause-pushed
returns-clause-pushed g c =
    on_ok_weaker c.push_form.result
    (underlying-pushed c.in_ok-form.ensures.keeps.kept (g.F.Ask.headers c.args.judge.now) (g.F.Ask.tree c.args.judge.now c.args.t.now) c.in_ok-form.form c.args.found.now.items c.push_form.new.found.items c.requires.own c.in_ok-form.ensures.answer)
    c.push_form.ensures
