-- How far a comment, a rune literal or a string literal reads that is not whole.
-- Says at which offset reading is stuck: it could still go on there, and no byte before is to blame.
use Rattle.std.specs.Prelude.{◌≡◌, ℕ, ◌≤◌, List, length}
use Rattle.go_tree.specs.Lexical.Characters.{IsForbidden}
use Rattle.go_tree.specs.Lexical.Faults.{CanGoOn}

pub record IsStuck (bytes : List ℕ) (from at : ℕ) : Type 0 where
  pub could : CanGoOn bytes from at
  pub behind : from ≤ at
  pub within : at ≤ length bytes
  pub only : (n : ℕ) → CanGoOn bytes from n → IsForbidden bytes n → n ≡ at
