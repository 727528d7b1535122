-- Runs of characters.
-- Says for each kind of run which test its characters pass, each with the byte before it.
use Rattle.std.specs.Prelude.{◌≡◌, ℕ, Bool, true, List, Some}
use Rattle.go_tree.specs.Lexical.Characters.{decoded_at, is_allowed, is_letter_or_digit}
use Rattle.go_tree.specs.Lexical.Comments.{in_line_comment}
use Rattle.go_tree.specs.Lexical.Literals.{in_raw}
use Rattle.go_tree.specs.Lexical.Numbers.{goes_on}
use Rattle.go_scan.specs.declared.runs.Test.{Test}
use Rattle.go_scan.specs.declared.runs.Test.TheVariants.{Word, Number, LineComment, RawLit}

abbrev pub passes_of : Test → ℕ → ℕ → Bool
passes_of Word = λ before c. is_letter_or_digit c
passes_of (Number hexadecimal) = goes_on hexadecimal
passes_of LineComment = in_line_comment
passes_of RawLit = in_raw

-- a character of that length stands at the offset that may stand in a comment
pub record IsAllowedChar (bytes : List ℕ) (at len : ℕ) : Type 0 where
  pub c : ℕ
  pub char : (decoded_at bytes at).char ≡ Some c
  pub size : len ≡ (decoded_at bytes at).size
  pub allowed : is_allowed c ≡ true
