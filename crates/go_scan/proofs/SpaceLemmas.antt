-- Lemmas on `Space`: which bytes it begins with, where it ends, and that it has one end.
use Rattle.std.proofs.Common.{◌≡◌, ◌≢◌, ℕ, ◌+◌, ◌<◌, Bool, true, false, List, slice_index, Some, None, arith, sym, ◌∙◌}
use Rattle.std.proofs.lemmas.Bool.{false≢true}
use Rattle.go_tree.specs.Lexical.Characters.{decoded_at, is_white_space, byte_order_mark}
use Rattle.go_tree.specs.Lexical.Comments.{OpensLine, OpensGeneral, IsLineComment, IsGeneralComment}
use Rattle.go_tree.specs.Lexical.Scan.{Space, white, line, general, mark, IsFirstNewline, Gap, none, more}
use Rattle.go_scan.specs.Gaps.{HasNoSpace}
use Rattle.go_tree.proofs.SpaceLemmas.{some_same, slash_no_blank, no_mark}

-- what opens a comment is no space but the comment
pub line_alone : (bytes : List ℕ) (at : ℕ) → OpensLine bytes at → ((to : ℕ) → IsLineComment bytes at to → ⊥) → HasNoSpace bytes at
line_alone bytes at o no_line to (white b) = slash_no_blank _ o.0 b
line_alone bytes at o no_line to (line c) = no_line to c
line_alone bytes at o no_line to (general c) = omega (arith, o.1, c.opens.1)
line_alone bytes at o no_line to (mark start char) = no_mark bytes at 46 o.0 (omega arith) char

pub general_alone : (bytes : List ℕ) (at : ℕ) → OpensGeneral bytes at → ((to : ℕ) → IsGeneralComment bytes at to → ⊥) → HasNoSpace bytes at
general_alone bytes at o no_general to (white b) = slash_no_blank _ o.0 b
general_alone bytes at o no_general to (line c) = omega (arith, o.1, c.opens.1)
general_alone bytes at o no_general to (general c) = no_general to c
general_alone bytes at o no_general to (mark start char) = no_mark bytes at 46 o.0 (omega arith) char

pub slash_alone : (bytes : List ℕ) (at : ℕ) → slice_index bytes at ≡ 47 → (slice_index bytes (at + 1) ≡ 47 → ⊥) → (slice_index bytes (at + 1) ≡ 42 → ⊥) → HasNoSpace bytes at
slash_alone bytes at o a b to (white h) = slash_no_blank _ o h
slash_alone bytes at o a b to (line c) = a c.opens.1
slash_alone bytes at o a b to (general c) = b c.opens.1
slash_alone bytes at o a b to (mark start char) = no_mark bytes at 46 o (omega arith) char

pub no_space : (bytes : List ℕ) (at : ℕ) → is_white_space (slice_index bytes at) ≡ false → (slice_index bytes at ≡ 47 → ⊥) → (at ≡ 0 → (decoded_at bytes at).char ≡ Some byte_order_mark → ⊥) → HasNoSpace bytes at
no_space bytes at b slash no_mark to (white h) = false≢true (sym b ∙ h)
no_space bytes at b slash no_mark to (line c) = slash c.opens.0
no_space bytes at b slash no_mark to (general c) = slash c.opens.0
no_space bytes at b slash no_mark to (mark start char) = no_mark start char

pub no_comment : (bytes : List ℕ) (at : ℕ) → slice_index bytes at ≢ 47 → (OpensLine bytes at → ⊥) × (OpensGeneral bytes at → ⊥)
no_comment bytes at slash = (λ o. slash o.0, λ o. slash o.0)

other_char : (bytes : List ℕ) (at c : ℕ) → (decoded_at bytes at).char ≡ Some c → c ≢ byte_order_mark → (decoded_at bytes at).char ≡ Some byte_order_mark → ⊥
other_char bytes at c char apart h = apart (some_same c byte_order_mark (sym char ∙ h))

pub no_space_here : (bytes : List ℕ) (at : ℕ) → is_white_space (slice_index bytes at) ≡ false → slice_index bytes at ≢ 47 → (at ≡ 0 → (decoded_at bytes at).char ≡ Some byte_order_mark → ⊥) → HasNoSpace bytes at × (OpensLine bytes at → ⊥) × (OpensGeneral bytes at → ⊥)
no_space_here bytes at b slash no_mark = let n = no_comment bytes at slash in (no_space bytes at b slash no_mark, n.0, n.1)

pub no_space_by_char : (bytes : List ℕ) (at c : ℕ) → is_white_space (slice_index bytes at) ≡ false → slice_index bytes at ≢ 47 → (decoded_at bytes at).char ≡ Some c → c ≢ byte_order_mark → HasNoSpace bytes at × (OpensLine bytes at → ⊥) × (OpensGeneral bytes at → ⊥)
no_space_by_char bytes at c b slash char apart = no_space_here bytes at b slash (λ start h. other_char bytes at c char apart h)

pub no_space_by_none : (bytes : List ℕ) (at : ℕ) → is_white_space (slice_index bytes at) ≡ false → slice_index bytes at ≢ 47 → (decoded_at bytes at).char ≡ None → HasNoSpace bytes at × (OpensLine bytes at → ⊥) × (OpensGeneral bytes at → ⊥)
no_space_by_none bytes at b slash char = no_space_here bytes at b slash (λ start h. none_some (sym char ∙ h))
  where
    none_some : None ≡ Some byte_order_mark → ⊥
    none_some e = cc

pub no_space_later : (bytes : List ℕ) (at : ℕ) → is_white_space (slice_index bytes at) ≡ false → slice_index bytes at ≢ 47 → 0 < at → HasNoSpace bytes at × (OpensLine bytes at → ⊥) × (OpensGeneral bytes at → ⊥)
no_space_later bytes at b slash gt = no_space_here bytes at b slash (λ start h. omega (arith, gt, start))

pub gap_on : (stops : Bool) (bytes : List ℕ) (from at to : ℕ) → Gap stops bytes from at → Space bytes at to → (stops ≡ true → (n : ℕ) → IsFirstNewline bytes at to n → ⊥) → Gap stops bytes from to
gap_on stops bytes from at to g s clean = more g (s, clean)

pub gap_nothing : (stops : Bool) (bytes : List ℕ) (from : ℕ) → Gap stops bytes from from
gap_nothing stops bytes from = none
