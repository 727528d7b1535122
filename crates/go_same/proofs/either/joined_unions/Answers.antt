use Rattle.std.proofs.lemmas.Result.{IfOk-weaker}
use Rattle.go_same.proofs.EitherLemmas.{one_owned, one_viewed}
use Rattle.go_same.proofs.either.joined_unions.Goals as goal

pub returns-then-len-eq1-2-clause-made : goal.returns-then-len-eq1-2-clause-made
returns-then-len-eq1-2-clause-made g c =
    IfOk-weaker c.one_of_both.result _ _ (λ all made. one_viewed (g.J.Ask.tree c.args.judge.now) c.args.us.items c.args.vs.items all.items made) c.one_of_both.ensures

pub returns-then-len-eq1-2-clause-own : goal.returns-then-len-eq1-2-clause-own
returns-then-len-eq1-2-clause-own g c =
    IfOk-weaker c.one_of_both.result _ _ (λ all made. one_owned (g.J.Ask.is_type c.args.judge.now) c.args.us.items c.args.vs.items all.items made c.requires.own_first c.requires.own_second) c.one_of_both.ensures
