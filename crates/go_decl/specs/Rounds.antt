-- Headers that are found in rounds: what the rounds keep, and when no more can be found.
use Rattle.std.specs.Prelude.{◌≡◌, ℕ, suc, Option, Some, None, List, [], ◌∷◌}
use Rattle.go_module.specs.Names.Declarations.{Declaration, number_of}
use Rattle.go_judge.specs.Naming.{Naming}
use Rattle.go_judge.specs.Records.{HeaderData}
use Rattle.go_judge.specs.Headers.{Headers, headers_of}
use Rattle.go_values.specs.Headers.{Follows, Justified}

-- these headers are those of some justified list
pub record IsBacked (before : Headers) (naming : Naming) (declarations : List Declaration) (headers : Headers) : Type 0 where
  pub list : List (ℕ × HeaderData)
  pub justified : Justified before naming declarations list
  pub same : (d : ℕ) → headers d ≡ headers_of before list d

-- no header for d follows from these headers, unless it is there
abbrev pub IsSettled : Headers → Naming → List Declaration → Headers → ℕ → Type 0
IsSettled before naming declarations headers d = (h : HeaderData) → headers d ≡ None → Follows before naming declarations headers d h → ⊥

-- one more, where there is no header
abbrev pub and_open : Option HeaderData → ℕ → ℕ
and_open None n = suc n
and_open (Some h) n = n

-- how many declarations have no header, by their numbers
abbrev pub open_in : Headers → List Declaration → ℕ
open_in headers [] = 0
open_in headers (x ∷ xs) = and_open (headers (number_of x).0) (open_in headers xs)

-- one header was told to who had these before, or none
pub data IsToldOrNot (before : Headers) (d : ℕ) (h : HeaderData) (after : Headers) : Type 0 where
  not_told : after ≡ before → IsToldOrNot before d h after
  told : ((e : ℕ) → after e ≡ headers_of before ((d, h) ∷ []) e) → IsToldOrNot before d h after
