use Rattle.std.proofs.Common.{ℕ, suc, ◌∷◌, sym}
use Rattle.std.proofs.lemmas.Result.{IfErr-weaker}
use Rattle.go_term.specs.View.{type_of}
use Rattle.go_judge.specs.Types.UnderlyingType.{under_from}
use Rattle.go_subst.specs.Chains.{asked_from, origin_as, path_of}
use Rattle.go_subst.proofs.ChainLemmas.{cause-along, chain-asks, not_listed}
use Rattle.go_subst.proofs.underlying.next_turn.Goals as goal

pub returns-in-Some-clause-cause : goal.returns-in-Some-clause-cause
returns-in-Some-clause-cause g c =
    let path = path_of c.args.path.now in
    let here = type_of c.args.here in
    let origin = origin_as c.in-Some.origin in
    let new = not_listed _ c.in_ok-add.field-0 c.in_ok-add.ensures.fresh c.if-branch.true in
    IfErr-weaker c.asked.result _ _
    (λ fault cause. cause-along fault (g.A.Ask.headers c.args.ask.now) (λ (n : ℕ). asked_from n (origin ∷ path) here origin.0) (λ (n : ℕ). under_from (suc n) path here)
    (λ n. chain-asks n path here origin (sym c.in-Some.ensures) new) (cause (origin ∷ path)))
    c.asked.ensures.cause
