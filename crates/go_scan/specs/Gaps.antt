-- What stands between two tokens.
-- Says for one step over it what it found, and for the whole what stands behind it.
use Rattle.std.specs.Prelude.{◌≡◌, ℕ, ◌≤◌, Bool, true, List, length, ◌⊎◌}
use Rattle.go_tree.specs.Lexical.Comments.{OpensLine, OpensGeneral}
use Rattle.go_tree.specs.Lexical.Scan.{Space, IsFirstNewline}
use Rattle.go_scan.specs.Reading.{IsStuck}
use Rattle.go_scan.specs.declared.gap.Here.{Here}
use Rattle.go_scan.specs.declared.gap.Here.TheVariants.{Newline, Stuck, Other}

abbrev pub HasNoSpace : List ℕ → ℕ → Type 0
HasNoSpace bytes at = (to : ℕ) → Space bytes at to → ⊥

-- what stands at a place: space whose newline counts, a comment that is not whole, or neither space nor a comment
abbrev pub IsHere : List ℕ → ℕ → Bool → Here → Type 0
IsHere bytes at stops (Newline from to) = (stops ≡ true) × Space bytes at to × IsFirstNewline bytes at to from × (to ≤ length bytes)
IsHere bytes at stops (Stuck e) = HasNoSpace bytes at × (OpensLine bytes at ⊎ OpensGeneral bytes at) × IsStuck bytes at e.at
IsHere bytes at stops Other = HasNoSpace bytes at × (OpensLine bytes at → ⊥) × (OpensGeneral bytes at → ⊥)
