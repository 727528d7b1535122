-- Which byte is to blame where no token starts.
-- Says at which offset a byte stands that may not stand there, if one does.
use Prim.Native.Char.{code}
use Rattle.std.specs.Prelude.{◌≡◌, ℕ, List, ◌⊎◌}
use Rattle.go_tree.specs.Lexical.Characters.{IsForbidden}
use Rattle.go_tree.specs.Lexical.Faults.{CanGoOn}

pub record IsBlamed (bytes : List ℕ) (from at : ℕ) : Type 0 where
  pub reached : (at ≡ from) ⊎ CanGoOn bytes from at
  pub only : (n : ℕ) → (n ≡ from) ⊎ CanGoOn bytes from n → IsForbidden bytes n → n ≡ at

-- a quote that opens a rune literal, an interpreted or a raw string literal
abbrev pub OpensLiteral : ℕ → Type 0
OpensLiteral b = (b ≡ code "'") ⊎ ((b ≡ code "\"") ⊎ (b ≡ code "`"))
