-- Lemmas on the place of the next token and on what is wrong where none starts.
use Rattle.std.proofs.Common.{◌≡◌, ℕ, ◌+◌, ◌<◌, ◌≤◌, Bool, true, List, length, slice_index, Option, refl, arith, sym, ◌∙◌, ⊎_elim, ◌⊎◌, inl, inr}
use Rattle.std.proofs.lemmas.Bool.{cases_lt}
use Rattle.go_tree.specs.declared.token.Token.{Token}
use Rattle.go_tree.specs.declared.token.TokenKind.{TokenKind}
use Rattle.go_tree.specs.declared.token.TokenKind.TheVariants.{InsertedSemicolon}
use Rattle.go_tree.specs.Lexical.Characters.{IsForbidden}
use Rattle.go_tree.specs.Lexical.Comments.{OpensLine, OpensGeneral}
use Rattle.go_tree.specs.Lexical.Faults.{CanGoOn, IsForbiddenByte, IsMissingToken}
use Rattle.go_tree.specs.Lexical.Semicolons.{inserts_after}
use Rattle.go_tree.specs.Lexical.Scan.{Space, Passed, Gap, IsPlace, IsFirst, ends, newline, written, IsFirstNewline, IsNext}
use Rattle.go_tree.specs.Lexical.Tokens.{IsLongest}
use Rattle.go_scan.specs.Blame.{IsBlamed}
use Rattle.go_scan.specs.Gaps.{HasNoSpace}
use Rattle.go_scan.specs.Reading.{IsStuck}
use Rattle.go_tree.proofs.ByteLemmas.{byte_within}
use Rattle.go_scan.proofs.LexemeLemmas.{Form, form_of, SpelledAt, spelled_at}
use Rattle.go_scan.proofs.LongestLemmas.{stuck_blamed}
use Rattle.go_scan.proofs.NextLemmas.{one_place}
use Rattle.go_tree.proofs.SpaceLemmas.{one_space}
use Rattle.go_scan.proofs.TokenLemmas.{no_word, not_number}

-- a place where no space stands, and one where a newline stops
pub place_elsewhere : (stops : Bool) (bytes : List ℕ) (at : ℕ) (last : Option TokenKind) (place : ℕ) → stops ≡ inserts_after last → Gap stops bytes at place → HasNoSpace bytes place → IsPlace bytes at last place
place_elsewhere stops bytes at last place same gap no_space = record { gap = rw same at gap; whole = λ to p. no_space to p.0 }

place_at_newline : (stops : Bool) (bytes : List ℕ) (at : ℕ) (last : Option TokenKind) (place from to : ℕ) → stops ≡ inserts_after last → Gap stops bytes at place → stops ≡ true → Space bytes place to → IsFirstNewline bytes place to from → IsPlace bytes at last place
place_at_newline stops bytes at last place from to same gap stop space first = record { gap = rw same at gap; whole = stopped }
  where
    stopped : (n : ℕ) → Passed (inserts_after last) bytes place n → ⊥
    stopped n p =
        let end : n ≡ to = one_space bytes place n to p.0 space in
        let here : IsFirstNewline bytes place n from = rw end first in
        p.1 (sym same ∙ stop) from here

pub next_at_newline : (stops : Bool) (bytes : List ℕ) (at : ℕ) (last : Option TokenKind) (place from to : ℕ) → stops ≡ inserts_after last → Gap stops bytes at place → stops ≡ true → Space bytes place to → IsFirstNewline bytes place to from → IsNext bytes at last (record { kind = InsertedSemicolon; start = from; end = to })
next_at_newline stops bytes at last place from to same gap stop space first = record {
  place = place;
  is_place = place_at_newline stops bytes at last place from to same gap stop space first;
  first = newline refl space first;
}

pub next_at_place : (bytes : List ℕ) (at : ℕ) (last : Option TokenKind) (place : ℕ) (t : Token) → IsPlace bytes at last place → IsFirst bytes last place t → IsNext bytes at last t
next_at_place bytes at last place t is_place first = record { place = place; is_place = is_place; first = first }

pub no_next : (bytes : List ℕ) (at : ℕ) (last : Option TokenKind) (place : ℕ) → IsPlace bytes at last place → ((t : Token) → IsFirst bytes last place t → ⊥) → (t : Token) → IsNext bytes at last t → ⊥
no_next bytes at last place is_place nothing t h =
    let same : h.place ≡ place = one_place bytes at last h.place place h.is_place is_place in
    let first : IsFirst bytes last place t = rw same at h.first in
    nothing t first

-- no token stands where a comment opens
opening_bytes : (bytes : List ℕ) (from : ℕ) → OpensLine bytes from ⊎ OpensGeneral bytes from → (slice_index bytes from ≡ 47) × ((slice_index bytes (from + 1) ≡ 61 → ⊥)) × (from + 2 ≤ length bytes)
opening_bytes bytes from (inl o) = let w = byte_within bytes (from + 1) 46 o.1 in (o.0, λ e. omega (arith, e, o.1), omega (arith, w))
opening_bytes bytes from (inr o) = let w = byte_within bytes (from + 1) 41 o.1 in (o.0, λ e. omega (arith, e, o.1), omega (arith, w))

no_comment_token : (bytes : List ℕ) (kind : TokenKind) (from to : ℕ) → OpensLine bytes from ⊎ OpensGeneral bytes from → IsLongest bytes kind from to → ⊥
no_comment_token bytes kind from to o h = at (form_of bytes kind from to h.token)
  where
    b : (slice_index bytes from ≡ 47) × ((slice_index bytes (from + 1) ≡ 61 → ⊥)) × (from + 2 ≤ length bytes)
    b = opening_bytes bytes from o

    reaches : from + 2 ≤ to
    reaches = ⊎_elim
        (λ (lt : to < from + 2). absurd (h.longest (from + 2) lt b.2 (inr (inr (refl, o)))))
        (λ (ge : from + 2 ≤ to). ge)
        (cases_lt to (from + 2))

    apart : (n : ℕ) → slice_index bytes from ≡ n → (n ≡ 47 → ⊥) → ⊥
    apart n e other = other (sym e ∙ b.0)

    spelled : SpelledAt bytes from to → ⊥
    spelled (SpelledAt.word small w) = no_word bytes from to 46 b.0 (omega arith) refl w
    spelled (SpelledAt.mark m dots slash) = ⊎_elim
        (λ (alone : to ≡ from + 1). let r = reaches in omega (arith, alone, r))
        (λ (second : slice_index bytes (from + 1) ≡ 61). b.1 second)
        (slash b.0)

    at : Form bytes kind from to → ⊥
    at (Form.word k w x) = no_word bytes from to 46 b.0 (omega arith) refl w
    at (Form.number r k) = not_number bytes from 47 b.0 refl (λ e. omega (arith, e)) r.0
    at (Form.rune k x) = apart 39 x.opens (λ e. omega (arith, e))
    at (Form.interpreted k x) = apart 34 x.opens (λ e. omega (arith, e))
    at (Form.raw k x) = apart 96 x.opens (λ e. omega (arith, e))
    at (Form.spelled s) = spelled (spelled_at bytes kind from to h.within s)

pub no_first_at_comment : (bytes : List ℕ) (last : Option TokenKind) (place : ℕ) → OpensLine bytes place ⊎ OpensGeneral bytes place → HasNoSpace bytes place → (t : Token) → IsFirst bytes last place t → ⊥
no_first_at_comment bytes last place o no_space t (ends a k s e) = let w = (opening_bytes bytes place o).2 in omega (arith, a, w)
no_first_at_comment bytes last place o no_space t (newline k space n) = no_space t.end space
no_first_at_comment bytes last place o no_space t (written none start long) = no_comment_token bytes t.kind place t.end o long

pub comment_blamed : (bytes : List ℕ) (place at : ℕ) → OpensLine bytes place ⊎ OpensGeneral bytes place → IsStuck bytes place at → IsBlamed bytes place at
comment_blamed bytes place at o s = stuck_blamed bytes place at 46 (opening_bytes bytes place o).0 (omega arith) s

-- the byte to blame, if it may not stand there, or the place
pub fault_rule : {A B : Type 0} (bytes : List ℕ) (at : ℕ) (last : Option TokenKind) (place blamed offset : ℕ) → IsPlace bytes at last place → ((t : Token) → IsNext bytes at last t → ⊥) → IsBlamed bytes place blamed → (A × (offset ≡ blamed) × IsForbidden bytes blamed) ⊎ (B × (offset ≡ place) × (IsForbidden bytes blamed → ⊥)) → (A × IsForbiddenByte bytes at last offset) ⊎ (B × IsMissingToken bytes at last offset)
fault_rule bytes at last place blamed offset is_place none b (inl f) = inl (f.0, rw f.1 (record { place = place; is_place = is_place; forbidden = f.2; reached = b.reached }))
fault_rule bytes at last place blamed offset is_place none b (inr f) = inr (f.0, rw f.1 (record { is_place = is_place; missing = none; allowed = allowed }))
  where
    allowed : (n : ℕ) → IsForbiddenByte bytes at last n → ⊥
    allowed n h =
        let same : h.place ≡ place = one_place bytes at last h.place place h.is_place is_place in
        let reached : (n ≡ place) ⊎ CanGoOn bytes place n = rw same at h.reached in
        let blame : n ≡ blamed = b.only n reached h.forbidden in
        let forbidden : IsForbidden bytes blamed = rw blame at h.forbidden in
        f.2 forbidden
