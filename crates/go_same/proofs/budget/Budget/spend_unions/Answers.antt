use Rattle.std.proofs.Common.{◌≡◌, ◌+◌, length, drop, ap, ◌∙◌, arith}
use Rattle.std.proofs.lemmas.List.Sums.{sum_by-cons}
use Rattle.std.specs.Prelude.{OnErr, Result, Ok, Err}
use Rattle.go_same.specs.Sets.{unions_size}
use Rattle.go_same.proofs.EitherLemmas.{opens}
use Rattle.go_same.proofs.budget.Budget.spend_unions.Goals as goal

on_err : {T E : Type 0} (r : Result T E) (P : Type 0) → P → OnErr r P
on_err (Ok x) P holds = tt
on_err (Err e) P holds = holds

pub returns-in_err-spend-clause-few : goal.returns-in_err-spend-clause-few
returns-in_err-spend-clause-few c =
    let left : unions_size (drop c.loop-u.u-index c.args.unions.now) ≡ length c.u-item.result.items + unions_size (drop (c.loop-u.u-index + 1) c.args.unions.now) =
    ap unions_size (opens c.args.unions.now c.loop-u.u-index c.u-item.result c.loop-u-test.true c.u-item.is)
    ∙ sum_by-cons (λ u. length u.items) c.u-item.result (drop (c.loop-u.u-index + 1) c.args.unions.now) in
    on_err c.from_residual.result _ (omega (arith, left, c.loop-u.invariant, c.in_err-spend.ensures.few))
