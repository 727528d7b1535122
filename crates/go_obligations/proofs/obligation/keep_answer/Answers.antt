use Rattle.go_obligations.proofs.AnswerLemmas.{at_its_key, one_more}
use Rattle.go_obligations.proofs.obligation.keep_answer.Goals as goal

pub returns-clause-answers : goal.returns-clause-answers
returns-clause-answers g c =
    let o = c.args.obligation.now in
    let headers = g.J.Ask.headers c.args.judge.now in
    one_more headers c.args.answers.now c.add.new.self c.args.key c.in_ok-fails.fails c.in_ok-add.ensures
    (at_its_key headers o.demand (g.J.Ask.tree c.args.judge.now o.ty) c.args.key c.in_ok-fails.fails c.requires.key c.in_ok-fails.ensures.fails)
    c.requires.answers
