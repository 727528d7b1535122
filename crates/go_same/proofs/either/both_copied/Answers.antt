use Rattle.std.proofs.Common.{◌∙◌}
use Rattle.std.proofs.lemmas.Result.{IfOk-weaker}
use Rattle.go_same.proofs.EitherLemmas.{both_made}
use Rattle.go_same.proofs.either.both_copied.Goals as goal

pub returns-clause-made : goal.returns-clause-made
returns-clause-made g c =
    IfOk-weaker c.with_copies-2.result _ _ (λ all made. made ∙ both_made c.in_ok-first.ensures.keeps.kept c.new.result.items c.args.u.now c.args.v.now c.in_ok-first.first.items c.new.ensures.items c.requires.own_second c.in_ok-first.ensures.made) c.with_copies-2.ensures.made
