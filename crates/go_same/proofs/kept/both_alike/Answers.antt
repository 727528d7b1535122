use Rattle.std.proofs.Common.{sym, ◌∙◌}
use Rattle.std.proofs.lemmas.Result.{IfOk-weaker}
use Rattle.go_same.proofs.KeptPairLemmas.{layers_alike}
use Rattle.go_same.proofs.kept.both_alike.Goals as goal

pub returns-clause-layers : goal.returns-clause-layers
returns-clause-layers g c =
    IfOk-weaker c.alike_layers-2.result _ _ (λ r h so. layers_alike c.alike_layers.ensures.keeps.kept c.args.pair.now c.args.x.now c.args.y.now c.requires.pair_own.1 c.requires.y_own (sym c.in_ok-alike_layers.ensures.alike ∙ c.if-not-branch.false) (sym h ∙ so)) c.alike_layers-2.ensures.alike
