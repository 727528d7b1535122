use Rattle.std.proofs.lemmas.Result.{IfOk-weaker}
use Rattle.go_obligations.proofs.AnswerLemmas.{star_stands}
use Rattle.go_obligations.proofs.named.base_name.Goals as goal

pub returns-in-Pointer-clause-name : goal.returns-in-Pointer-clause-name
returns-in-Pointer-clause-name g c =
    IfOk-weaker c.name_of.result _ _
    (λ name is. star_stands (g.F.Ask.tree c.args.judge.now) c.args.shape.now c.in-Pointer.base name c.in-Pointer.is is)
    c.name_of.ensures.name
