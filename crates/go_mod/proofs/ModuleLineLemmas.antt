-- Lemmas on specs/ModuleLines.antt.
use Rattle.std.proofs.Common.{◌≡◌, ℕ, ◌+◌, ◌-◌, ◌<◌, ◌≤◌, Bool, true, false, cond, not, inl, inr, List, [], ◌∷◌, ◌++◌, length, take, drop, get_or, refl, sym, ap, subst, ◌∙◌, arith, nat_lt, nat_eq, append_assoc, codes}
use Rattle.std.specs.List.{slice_split, position_or_len, before_first, after_first, starts_with, All}
use Rattle.std.proofs.lemmas.Bool.{cases_lt, le-ltb, lt-ltb}
use Rattle.std.proofs.lemmas.List.{drop-drop, drop_more, take_more, take_all, take_rest, length-drop, length-take-le}
use Rattle.std.proofs.lemmas.List.Splits.{slice_split_first, slice_split_none}
use Rattle.std.proofs.lemmas.List.Sums.{prefix_len_passes}
use Rattle.go_base.specs.Place.{is_newline}
use Rattle.go_mod.specs.ModuleLines.{LineText, before_comment, content, placed_from}

-- a byte that begins no comment stands before the comment
no_comment : (b : ℕ) (bs : List ℕ) → starts_with nat_eq (b ∷ bs) (codes "//") ≡ false → before_comment (b ∷ bs) ≡ b ∷ before_comment bs
no_comment b bs e = ap (λ t. cond t [] (b ∷ before_comment bs)) e

pub comment_more : (line : List ℕ) (end : ℕ) → end < length line → starts_with nat_eq (take (length line - end) (drop end line)) (codes "//") ≡ false →
    take end line ++ before_comment (drop end line) ≡ before_comment line →
    take (end + 1) line ++ before_comment (drop (end + 1) line) ≡ before_comment line
comment_more line end lt none front =
    let b = get_or line end 0 in
    let rest = drop (end + 1) line in
    let cut : drop end line ≡ b ∷ rest = drop_more line end 0 lt in
    let here : starts_with nat_eq (b ∷ rest) (codes "//") ≡ false = subst (λ (t : List ℕ). starts_with nat_eq t (codes "//") ≡ false) (take_rest line end ∙ cut) none in
    ap (λ t. t ++ before_comment rest) (take_more line end 0 lt)
    ∙ append_assoc (take end line) (b ∷ []) (before_comment rest)
    ∙ ap (λ t. take end line ++ t) (sym (ap before_comment cut ∙ no_comment b rest here))
    ∙ front

-- what counts of the lines from an offset on; past the end there are none
abbrev pub lines_from : List ℕ → ℕ → List LineText
lines_from bytes offset = cond (nat_lt (length bytes) offset) [] (placed_from offset (slice_split is_newline (drop offset bytes)))

-- the line that begins at an offset
abbrev pub line_at : List ℕ → ℕ → LineText
line_at bytes offset = record { offset = offset; text = content (before_first is_newline (drop offset bytes)) }

lines_inside : (bytes : List ℕ) (offset : ℕ) → offset ≤ length bytes → lines_from bytes offset ≡ placed_from offset (slice_split is_newline (drop offset bytes))
lines_inside bytes offset le = ap (λ t. cond t [] (placed_from offset (slice_split is_newline (drop offset bytes)))) (le-ltb (length bytes) offset le)

pub lines_past : (bytes : List ℕ) (offset : ℕ) → length bytes < offset → lines_from bytes offset ≡ []
lines_past bytes offset lt = ap (λ t. cond t [] (placed_from offset (slice_split is_newline (drop offset bytes)))) (lt-ltb (length bytes) offset lt)

not_true : (b : Bool) → not b ≡ true → b ≡ false
not_true true e = sym e
not_true false e = refl

none_before : (xs : List ℕ) → length xs ≤ position_or_len is_newline xs → All (λ x. is_newline x ≡ false) xs
none_before xs le = λ k d lt. not_true _ (prefix_len_passes (λ x. not (is_newline x)) xs k d (omega (arith, lt, le)))

-- where a newline ends the line
lines_ended : (bytes : List ℕ) (offset : ℕ) → offset ≤ length bytes → position_or_len is_newline (drop offset bytes) < length (drop offset bytes) →
    lines_from bytes offset ≡ line_at bytes offset ∷ lines_from bytes (offset + (position_or_len is_newline (drop offset bytes) + 1))
lines_ended bytes offset le lt =
    let rest = drop offset bytes in
    let len = position_or_len is_newline rest in
    let size = length-drop offset bytes in
    let front : length (before_first is_newline rest) ≡ len = length-take-le len rest (omega (arith, lt)) in
    let next : offset + length (before_first is_newline rest) + 1 ≡ offset + (len + 1) = omega (arith, front) in
    lines_inside bytes offset le
    ∙ ap (placed_from offset) (slice_split_first is_newline rest 0 lt)
    ∙ ap (λ n. line_at bytes offset ∷ placed_from n (slice_split is_newline (after_first is_newline rest))) next
    ∙ ap (λ t. line_at bytes offset ∷ placed_from (offset + (len + 1)) (slice_split is_newline t)) (drop-drop (len + 1) offset bytes)
    ∙ ap (λ t. line_at bytes offset ∷ t) (sym (lines_inside bytes (offset + (len + 1)) (omega (arith, size, lt))))

-- the last line
lines_last : (bytes : List ℕ) (offset : ℕ) → offset ≤ length bytes → length (drop offset bytes) ≤ position_or_len is_newline (drop offset bytes) →
    lines_from bytes offset ≡ line_at bytes offset ∷ lines_from bytes (offset + (position_or_len is_newline (drop offset bytes) + 1))
lines_last bytes offset le ge =
    let rest = drop offset bytes in
    let len = position_or_len is_newline rest in
    let size = length-drop offset bytes in
    lines_inside bytes offset le
    ∙ ap (placed_from offset) (slice_split_none is_newline rest (none_before rest ge))
    ∙ ap (λ t. placed_from offset (t ∷ [])) (sym (take_all len rest ge))
    ∙ ap (λ t. line_at bytes offset ∷ t) (sym (lines_past bytes (offset + (len + 1)) (omega (arith, size, ge))))

lines_more : (bytes : List ℕ) (offset : ℕ) → offset ≤ length bytes →
    lines_from bytes offset ≡ line_at bytes offset ∷ lines_from bytes (offset + (position_or_len is_newline (drop offset bytes) + 1))
lines_more bytes offset le = elim (cases_lt (position_or_len is_newline (drop offset bytes)) (length (drop offset bytes))) [
  | inl lt ↦ lines_ended bytes offset le lt
  | inr ge ↦ lines_last bytes offset le ge
]

-- the line that begins at an offset, and those behind it
pub lines_step : (bytes : List ℕ) (offset len : ℕ) (text : List ℕ) → offset ≤ length bytes →
    len ≡ position_or_len is_newline (take (length bytes - offset) (drop offset bytes)) → text ≡ content (take len (take (length bytes - offset) (drop offset bytes))) →
    record { offset = offset; text = text } ∷ lines_from bytes (offset + (len + 1)) ≡ lines_from bytes offset
lines_step bytes offset len text le end is =
    let placed : ℕ → List ℕ → List LineText = λ n t. record { offset = offset; text = t } ∷ lines_from bytes (offset + (n + 1)) in
    let rest = take_rest bytes offset in
    ap (placed len) (is ∙ ap (λ t. content (take len t)) rest)
    ∙ ap (λ n. placed n (content (take n (drop offset bytes)))) (end ∙ ap (position_or_len is_newline) rest)
    ∙ sym (lines_more bytes offset le)
