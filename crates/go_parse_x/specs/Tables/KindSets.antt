-- Sets of kinds of tokens as numbers, with one bit for each kind.
use Rattle.std.specs.Prelude.{ℕ, Bool, List, [], ◌∷◌, ◌^◌, ◌==◌, bit_or}
use Rattle.std.specs.Int.{bit_at}
use Rattle.go_tree.specs.declared.token.TokenKind.{TokenKind}
use Rattle.go_tree.specs.Grammar.Tables.TokenKinds.{code}

abbrev pub set_of : List TokenKind → ℕ
set_of [] = 0
set_of (k ∷ ks) = bit_or (2 ^ code k) (set_of ks)

abbrev pub has_kind : ℕ → TokenKind → Bool
has_kind set kind = bit_at set (code kind) == 1
