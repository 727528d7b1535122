-- The digits of an escape, digit by digit.
-- Says which digits an escape of a kind has, and where the reading of a text stops.
use Prim.Native.Char.{code}
use Rattle.std.specs.Prelude.{◌≡◌, ◌≢◌, ℕ, ◌<◌, ◌≤◌, nat_le, Bool, true, List, [], ◌∷◌, ◌++◌, length, slice_index, slice_range, ◌⊎◌}
use Rattle.std.specs.List.{list_all}
use Rattle.go_tree.specs.Lexical.Characters.{IsForbidden}
use Rattle.go_tree.specs.Lexical.Faults.{IsEscapeFront}
use Rattle.go_tree.specs.Lexical.Literals.{number_in, is_valid_code_point, is_escape, IsCharacter}
use Rattle.go_scan.specs.Digits.{is_digit_of, size_of_base}
use Rattle.go_scan.specs.declared.digits.Base.{Base}
use Rattle.go_scan.specs.declared.digits.Base.TheVariants as base
use Rattle.go_scan.specs.declared.escapes.Digits.{Digits}
use Rattle.go_scan.specs.declared.escapes.Digits.TheVariants.{Octal, Byte, Little, Big}

-- the base in which its digits are written
abbrev pub base_in : Digits → Base
base_in Octal = base.Octal
base_in _ = base.Hex

abbrev pub base_of : Digits → ℕ
base_of kind = size_of_base (base_in kind)

abbrev pub count_of : Digits → ℕ
count_of Octal = 3
count_of Byte = 2
count_of Little = 4
count_of Big = 8

abbrev pub is_escape_digit : Digits → ℕ → Bool
is_escape_digit kind = is_digit_of (base_in kind)

-- the digits may write this number
abbrev pub is_value_of : Digits → ℕ → Bool
is_value_of Octal v = nat_le v 255
is_value_of Byte v = true
is_value_of Little v = is_valid_code_point v
is_value_of Big v = is_valid_code_point v

-- all the digits of an escape
pub record AreDigits (kind : Digits) (xs : List ℕ) : Type 0 where
  pub count : length xs ≡ count_of kind
  pub digits : list_all (is_escape_digit kind) xs ≡ true
  pub value : is_value_of kind (number_in (base_of kind) xs) ≡ true

-- the bytes from `from` up to `at` could go on to bytes that have P, but not with the byte at `at`
pub record Stops (P : List ℕ → Type 0) (bytes : List ℕ) (from at : ℕ) : Type 0 where
  pub behind : from ≤ at
  pub within : at ≤ length bytes
  pub rest : List ℕ
  pub some : rest ≢ []
  pub could : P (slice_range bytes from at ++ rest)
  pub dead : (more : List ℕ) → at < length bytes → P (slice_range bytes from at ++ slice_index bytes at ∷ more) → ⊥
  pub plain : (k : ℕ) → from ≤ k → k < at → (0 < slice_index bytes k) × (slice_index bytes k < 128)

-- what stands behind a backslash, in a literal with that quote
abbrev pub IsEscape : ℕ → List ℕ → Type 0
IsEscape quote xs = is_escape quote xs ≡ true

-- a quote of a literal: ASCII, and no digit or letter
pub record IsQuote (quote : ℕ) : Type 0 where
  pub some : 0 < quote
  pub small : quote < code "0"

-- no character of a literal stands at `at`; one could still go on up to `stuck`, and no byte
-- before is to blame
pub record NoCharacter (quote : ℕ) (bytes : List ℕ) (at stuck : ℕ) : Type 0 where
  pub none : (n : ℕ) → IsCharacter quote bytes at n → ⊥
  pub reach : (stuck ≡ at) ⊎ IsEscapeFront quote bytes at stuck
  pub behind : at ≤ stuck
  pub within : stuck ≤ length bytes
  pub only : (n : ℕ) → (n ≡ at) ⊎ IsEscapeFront quote bytes at n → IsForbidden bytes n → n ≡ stuck
