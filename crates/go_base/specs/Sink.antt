-- Sinks of bytes.
-- Decides what a sink has taken after a call: all the bytes, or at a fault a prefix of them.
use Rattle.std.specs.Prelude.{◌≡◌, ℕ, List, ◌++◌, Option, Some, IfSome}

-- the bytes taken are those of before and these
abbrev pub Adds : Option (List ℕ) → Option (List ℕ) → List ℕ → Type 0
Adds old new bytes = IfSome old (λ before. new ≡ Some (before ++ bytes))

-- the bytes taken are those of before and a prefix of these
pub record AddsPrefix (old new : Option (List ℕ)) (bytes : List ℕ) : Type 0 where
  pub front : List ℕ
  pub back : List ℕ
  pub whole : bytes ≡ front ++ back
  pub adds : Adds old new front
