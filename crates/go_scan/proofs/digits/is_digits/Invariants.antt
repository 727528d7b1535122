use Rattle.std.proofs.Common.{◌≡◌, ℕ, Bool, true, false, List, drop}
use Rattle.go_tree.specs.Lexical.Numbers.{is_digits, are_more_digits}
use Rattle.go_scan.specs.Digits.{is_digit_of}
use Rattle.go_scan.proofs.digits.is_digits.Given as goal

-- whether a text is digits, where a digit stands before it or none does
abbrev pub are_digits : (ℕ → Bool) → Bool → List ℕ → Bool
are_digits p true = are_more_digits p
are_digits p false = is_digits p

-- what is left of the text decides
abbrev pub invariant-loop-byte : goal.invariant-loop-byte
invariant-loop-byte l = is_digits (is_digit_of l.base) l.text ≡ are_digits (is_digit_of l.base) l.behind_digit (drop l.byte-index l.text)
