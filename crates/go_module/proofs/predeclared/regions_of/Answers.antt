use Rattle.std.proofs.Common.{arith, sym, ◌∙◌, ◌++◌, ◌∷◌, []}
use Rattle.go_module.proofs.UniverseLemmas.{universe_more}
use Rattle.go_module.proofs.predeclared.regions_of.Goals as goal

pub loop-i-preserved : goal.loop-i-preserved
loop-i-preserved c =
    c.in_ok-push.ensures.items
    ∙ (λ i. c.loop-i.invariant i ++ c.in_ok-universe_region.ensures i ∷ [])
    ∙ sym (universe_more (λ row. (row.0.now, row.1)) c.args.rows.now c.loop-i.i _ (omega arith))
