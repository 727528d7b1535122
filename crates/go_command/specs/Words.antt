-- The words of the command.
-- Decides which words name a root, and a root of stubs: `ROOT`, or `ROOT --stubs ROOT2`. A root is not empty, and
-- the first does not begin with `-`.
use Prim.Native.Char.{code}
use Rattle.std.specs.Prelude.{ℕ, ◌==◌, nat_eq, not, ◌&&◌, List, [], ◌∷◌, Bool, true, false, Option, Some, None, codes, if◌then◌else◌}
use Rattle.std.specs.Borrow.{Bor}
use Rattle.std.specs.Cmp.Lexicographic.{pointwise}
use Rattle.std.specs.Option.{option_copied}

pub record Roots : Type 0 where
  pub root : List ℕ
  pub stubs : Option (List ℕ)

abbrev pub is_root : List ℕ → Bool
is_root [] = false
is_root (b ∷ bs) = not (b == code "-")

-- `--stubs`
abbrev pub is_flag : List ℕ → Bool
is_flag word = pointwise nat_eq word (codes "--stubs")

abbrev pub is_stubs_root : List ℕ → Bool
is_stubs_root [] = false
is_stubs_root (b ∷ bs) = true

-- the roots that the words name
abbrev pub roots_of : List (List ℕ) → Option Roots
roots_of (root ∷ []) = if is_root root then Some (record { root = root; stubs = None }) else None
roots_of (root ∷ (flag ∷ (stubs ∷ []))) =
    if (is_root root && is_flag flag) && is_stubs_root stubs then Some (record { root = root; stubs = Some stubs }) else None
roots_of words = None

-- what the answer of the program stands for
abbrev pub roots_view : Bor (List ℕ) × Option (Bor (List ℕ)) → Roots
roots_view (root, stubs) = record { root = root.now; stubs = option_copied stubs }
