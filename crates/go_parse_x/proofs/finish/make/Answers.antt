use Rattle.std.proofs.lemmas.Result.{IfOk-weaker}
use Rattle.go_parse_x.proofs.EndLemmas.{act_ending}
use Rattle.go_parse_x.proofs.finish.make.Goals as goal

pub returns-clause-ending : goal.returns-clause-ending
returns-clause-ending c = IfOk-weaker c.act.result _ _ (λ goes h gs. act_ending c.args.bytes.now c.args.last gs _ _ _ goes h) c.act.ensures.acted
