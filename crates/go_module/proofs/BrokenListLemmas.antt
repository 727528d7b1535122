-- The list of what was found: there is at most one, and it is empty exactly where nothing was found.
use Rattle.std.proofs.Common.{◌≡◌, List, [], ◌∷◌, refl, arith}
use Rattle.std.specs.List.{Contains}
use Rattle.go_base.specs.declared.rule.Broken.{Broken}
use Rattle.go_module.specs.Order.{IsListOf}
use Rattle.go_module.proofs.OrderLemmas.{one_ascending}

contains_head : (x : Broken) (xs : List Broken) → Contains (x ∷ xs) x
contains_head x xs = (0, omega arith, refl)

contains_none : (y : Broken) → Contains [] y → ⊥
contains_none y h = let lt = h.1 in omega (arith, lt)

pub one_list : (found a b : List Broken) → IsListOf found a → IsListOf found b → a ≡ b
one_list found a b first second =
    one_ascending a b first.ascending second.ascending
    (λ z h. (second.same z).1 ((first.same z).0 h))
    (λ z h. (first.same z).1 ((second.same z).0 h))

pub none_of_none : (list : List Broken) → IsListOf [] list → list ≡ []
none_of_none [] i = refl
none_of_none (b ∷ bs) i = absurd (contains_none b ((i.same b).0 (contains_head b bs)))

pub none_found : (found : List Broken) → IsListOf found [] → found ≡ []
none_found [] i = refl
none_found (b ∷ bs) i = absurd (contains_none b ((i.same b).1 (contains_head b bs)))
