-- Lemmas on `number_in`: one more digit, and a front of the digits writes no larger number.
use Rattle.std.proofs.Common.{◌≡◌, ℕ, ◌+◌, ◌<◌, ◌≤◌, ◌==◌, Bool, true, false, List, [], ◌∷◌, length, take, drop, get_or, sym, ap, ◌∙◌, arith}
use Rattle.std.specs.Prelude.{fold, if◌then◌else◌}
use Rattle.std.proofs.lemmas.List.{take-append-drop}
use Rattle.std.proofs.lemmas.List.Sums.{fold-append, fold_more}
use Rattle.go_tree.specs.Lexical.Literals.{number_in}
use Rattle.go_scan.specs.Digits.{size_of_base, next_number}
use Rattle.go_scan.specs.declared.digits.Base.{Base}
use Rattle.go_scan.specs.declared.digits.Base.TheVariants.{Binary, Octal, Decimal, Hex}

either_le : (b : Bool) (n m : ℕ) → n ≤ m → n ≤ (if b then n else m)
either_le true n m le = omega arith
either_le false n m le = le

digit_grows : (base : Base) (n b : ℕ) → n ≤ next_number (size_of_base base) n b
digit_grows Binary n b = either_le (b == 95) n _ (omega arith)
digit_grows Octal n b = either_le (b == 95) n _ (omega arith)
digit_grows Decimal n b = either_le (b == 95) n _ (omega arith)
digit_grows Hex n b = either_le (b == 95) n _ (omega arith)

grows : (base : Base) (n : ℕ) (bs : List ℕ) → n ≤ fold (next_number (size_of_base base)) n bs
grows base n [] = omega arith
grows base n (b ∷ bs) = omega (arith, digit_grows base n b, grows base (next_number (size_of_base base) n b) bs)

pub number_in-take-le : (base : Base) (bs : List ℕ) (i : ℕ) → number_in (size_of_base base) (take i bs) ≤ number_in (size_of_base base) bs
number_in-take-le base bs i =
    let front : ℕ = number_in (size_of_base base) (take i bs) in
    let rest = grows base front (drop i bs) in
    let whole : number_in (size_of_base base) bs ≡ fold (next_number (size_of_base base)) front (drop i bs) =
    sym (ap (number_in (size_of_base base)) (take-append-drop i bs)) ∙ fold-append (next_number (size_of_base base)) 0 (take i bs) (drop i bs) in
    omega (arith, rest, whole)

pub number_in_more : (base : Base) (bs : List ℕ) (i : ℕ) → i < length bs → number_in (size_of_base base) (take (i + 1) bs) ≡ next_number (size_of_base base) (number_in (size_of_base base) (take i bs)) (get_or bs i 0)
number_in_more base bs i lt = fold_more (next_number (size_of_base base)) 0 bs i 0 lt

-- one more digit writes no larger number than all
pub number_in_more_le : (base : Base) (bs : List ℕ) (i : ℕ) → i < length bs → next_number (size_of_base base) (number_in (size_of_base base) (take i bs)) (get_or bs i 0) ≤ number_in (size_of_base base) bs
number_in_more_le base bs i lt = omega (arith, number_in_more base bs i lt, number_in-take-le base bs (i + 1))
