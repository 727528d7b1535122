use Rattle.std.proofs.Common.{◌∙◌}
use Rattle.std.proofs.lemmas.Result.{IfErr-weaker, IfOk-weaker}
use Rattle.go_term.specs.View.{type_of}
use Rattle.go_judge.specs.Records.{header_as}
use Rattle.go_subst.proofs.ChainLemmas.{asked-cause, asked-there}
use Rattle.go_subst.proofs.PlainLemmas.{answered}
use Rattle.go_subst.proofs.underlying.asked.Goals as goal

pub returns-in-Some-clause-cause : goal.returns-in-Some-clause-cause
returns-in-Some-clause-cause g c =
    let there = answered (g.met.A.Ask.plain c.ask.new.self) c.in_ok-header.field-0 c.in-Some.header c.in-Some.is c.in_ok-header.ensures.own c.in_ok-header.ensures.answer in
    IfErr-weaker c.by_header.result _ _
    (λ fault cause path. asked-cause (g.A.Ask.headers c.args.ask.now) path (type_of c.args.here) fault c.args.d (header_as type_of c.in-Some.header) there cause)
    c.by_header.ensures.cause

pub returns-in-Some-clause-turn : goal.returns-in-Some-clause-turn
returns-in-Some-clause-turn g c =
    let there = answered (g.met.A.Ask.plain c.ask.new.self) c.in_ok-header.field-0 c.in-Some.header c.in-Some.is c.in_ok-header.ensures.own c.in_ok-header.ensures.answer in
    IfOk-weaker c.by_header.result _ _
    (λ turn is n path. asked-there (g.A.Ask.headers c.args.ask.now) path (type_of c.args.here) n c.args.d (header_as type_of c.in-Some.header) there ∙ is (g.A.Ask.headers c.args.ask.now) n path)
    c.by_header.ensures.turn
