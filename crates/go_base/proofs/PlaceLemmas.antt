-- Lemmas on specs/Place.antt.
use Rattle.std.proofs.Common.{◌≡◌, ℕ, ◌-◌, ◌<◌, ◌≤◌, List, true, false, not, length, get_or, ap}
use Rattle.std.proofs.Common.{arith, length-drop}
use Rattle.std.proofs.lemmas.List.Sums.{suffix_len_is}
use Rattle.std.specs.List.{after_last, suffix_len}
use Rattle.go_base.specs.Place.{is_newline}

-- where a line starts at n and no newline follows, the line is what stands after the last newline
pub length-after_last : (xs : List ℕ) (n : ℕ) → n ≤ length xs →
    ((k : ℕ) → n ≤ k → k < length xs → is_newline (get_or xs k 0) ≡ false) →
    (0 < n → is_newline (get_or xs (n - 1) 0) ≡ true) →
    length (after_last is_newline xs) ≡ length xs - n
length-after_last xs n within runs begins =
    let kept : suffix_len (λ x. not (is_newline x)) xs ≡ length xs - n =
    suffix_len_is (λ x. not (is_newline x)) xs n 0 within
    (λ k lo hi. ap not (runs k lo hi)) (λ p. ap not (begins p)) in
    omega (arith, length-drop (length xs - suffix_len (λ x. not (is_newline x)) xs) xs)
