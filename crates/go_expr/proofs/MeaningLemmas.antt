-- The item of a list at a place that is there.
use Rattle.std.proofs.Common.{◌≡◌, ℕ, zero, suc, ◌<◌, Some, List, [], ◌∷◌, length, get_or, ap, arith}
use Rattle.std.specs.Prelude.{slice_get}

pub item-get : {X : Type 0} (xs : List X) (n : ℕ) (x : X) → n < length xs → ((d : X) → x ≡ get_or xs n d) → Some x ≡ slice_get xs n
item-get [] n x within is = absurd (omega (arith, within))
item-get (y ∷ ys) zero x within is = ap Some (is y)
item-get (y ∷ ys) (suc n) x within is = item-get ys n x (omega (arith, within)) is
