-- A place where no token starts has one lexical fault.
use Rattle.std.proofs.Common.{◌≡◌, ℕ, ◌+◌, ◌-◌, ◌<◌, ◌≤◌, ◌⊎◌, ◌++◌, Bool, true, List, length, slice_index, Option, sym, ap, subst, ◌∙◌, arith, ⊎_elim, inl, inr, length-append}
use Rattle.std.specs.Prelude.{slice_range}
use Rattle.std.proofs.Math.ListN.{get_or-append}
use Rattle.std.proofs.lemmas.Bool.{cases_order, and_parts}
use Rattle.std.proofs.lemmas.List.{take_all}
use Rattle.go_base.specs.declared.rule.Rule.{Rule}
use Rattle.go_tree.specs.declared.token.TokenKind.{TokenKind}
use Rattle.go_tree.specs.Lexical.Characters.{is_allowed, IsForbidden, Ends}
use Rattle.go_tree.specs.Lexical.Comments.{in_line_comment, in_general_comment}
use Rattle.go_tree.specs.Lexical.Faults.{CanGoOn, line, general, raw, string, string_escape, rune, rune_escape, rune_closes, IsEscapeFront, forbidden_byte, missing_token, IsForbiddenByte, IsMissingToken, IsLex}
use Rattle.go_tree.specs.Lexical.Literals.{in_raw, is_escape}
use Rattle.go_tree.specs.declared.lex.Lex.{Lex}
use Rattle.go_scan.specs.Escapes.{IsQuote, NoCharacter}
use Rattle.go_scan.specs.Reading.{IsStuck}
use Rattle.go_tree.proofs.ByteLemmas.{IsPlain, allowed_char, plain_byte, range_length}
use Rattle.go_scan.proofs.CommentLemmas.{line_stuck, general_stuck}
use Rattle.go_scan.proofs.LiteralCharacterLemmas.{allowed_itself, bytes_plain, front_allowed, in_range, no_character}
use Rattle.go_scan.proofs.NextLemmas.{one_place}
use Rattle.go_scan.proofs.QuotedLemmas.{rune_quote, string_quote, rune_no_character, rune_unclosed, string_stuck}
use Rattle.go_scan.proofs.RawLemmas.{raw_stuck}

-- a forbidden byte is no such byte
unlike : (bytes : List ℕ) (at b : ℕ) → 0 < b → b < 128 → IsForbidden bytes at → slice_index bytes at ≡ b → ⊥
unlike bytes at b some small bad e = plain_byte bytes at (omega (arith, some, e), omega (arith, small, e)) bad

-- a run of allowed characters ends there
ends_at : (p : ℕ → ℕ → Bool) (bytes : List ℕ) (at : ℕ) → ((before c : ℕ) → p before c ≡ true → is_allowed c ≡ true) → IsForbidden bytes at → Ends p bytes at
ends_at p bytes at allows bad c char passes = allowed_char bytes at c char (allows _ _ passes) bad

line_allows : (before c : ℕ) → in_line_comment before c ≡ true → is_allowed c ≡ true
line_allows before c h = (and_parts (is_allowed c) _ h).0

general_allows : (before c : ℕ) → in_general_comment before c ≡ true → is_allowed c ≡ true
general_allows before c h = h

raw_allows : (before c : ℕ) → in_raw before c ≡ true → is_allowed c ≡ true
raw_allows before c h = (and_parts (is_allowed c) _ h).0

-- each byte of an escape that could still go on is plain
front_plain : (quote : ℕ) (bytes : List ℕ) (at to k : ℕ) → IsQuote quote → to ≤ length bytes → IsEscapeFront quote bytes at to → at < k → k < to → IsPlain (slice_index bytes k)
front_plain quote bytes at to k q within f low high =
    let l = range_length bytes (at + 1) to (omega (arith, low, high)) within in
    let short : k - (at + 1) < length (slice_range bytes (at + 1) to) = omega (arith, low, high, l) in
    let long = length-append (slice_range bytes (at + 1) to) f.rest in
    subst IsPlain
    (get_or-append (slice_range bytes (at + 1) to) f.rest 0 (k - (at + 1)) short ∙ in_range bytes (at + 1) to k (omega (arith, low)) high)
    (plain_in (slice_range bytes (at + 1) to ++ f.rest) (k - (at + 1)) f.escape (omega (arith, short, long)))
  where
    plain_in : (xs : List ℕ) (i : ℕ) → is_escape quote xs ≡ true → i < length xs → IsPlain (slice_index xs i)
    plain_in xs i h lt =
        let all : slice_range xs 0 (length xs) ≡ xs = take_all (length xs - 0) xs (omega arith) in
        bytes_plain quote xs 0 (length xs) i q (omega arith) (ap (is_escape quote) all ∙ h) (omega arith) lt

-- no character of a literal stands there
byte_stops : (quote : ℕ) (bytes : List ℕ) (at : ℕ) → IsForbidden bytes at → NoCharacter quote bytes at at
byte_stops quote bytes at bad = no_character quote bytes at (omega (arith, bad.0)) (λ e. unlike bytes at 92 (omega arith) (omega arith) bad e) (λ c char ok. allowed_char bytes at c char (allowed_itself quote c ok) bad)

-- nor one whose escape could still go on there
front_stops : (quote : ℕ) (bytes : List ℕ) (at to : ℕ) → IsQuote quote → IsEscapeFront quote bytes at to → IsForbidden bytes to → NoCharacter quote bytes at to
front_stops quote bytes at to q f bad = record {
  none = λ n h. front_allowed quote bytes at n to q h f bad;
  reach = inr f;
  behind = let b = f.behind in omega (arith, b);
  within = omega (arith, bad.0);
  only = only;
}
  where
    only : (n : ℕ) → (n ≡ at) ⊎ IsEscapeFront quote bytes at n → IsForbidden bytes n → n ≡ to
    only n (inl e) other = absurd (unlike bytes at 92 (omega arith) (omega arith) (subst (λ (k : ℕ). IsForbidden bytes k) e other) f.opens)
    only n (inr g) other = ⊎_elim
        (λ (e : n ≡ to). e)
        (⊎_elim
        (λ (lt : n < to). absurd (plain_byte bytes n (front_plain quote bytes at to n q (omega (arith, bad.0)) f g.behind lt) other))
        (λ (gt : to < n). absurd (plain_byte bytes to (front_plain quote bytes at n to q (omega (arith, other.0)) g f.behind gt) bad)))
        (cases_order n to)

-- reading is stuck at a forbidden byte
stuck_at : (bytes : List ℕ) (from at : ℕ) → CanGoOn bytes from at → IsForbidden bytes at → IsStuck bytes from at
stuck_at bytes from at (line o r) bad = line_stuck bytes from at o r (ends_at in_line_comment bytes at line_allows bad)
stuck_at bytes from at (general o r i) bad = general_stuck bytes from at o r (ends_at in_general_comment bytes at general_allows bad) i
stuck_at bytes from at (raw o r) bad = raw_stuck bytes from at (omega (arith, bad.0)) (record { opens = o; run = r; unclosed = λ e. unlike bytes at 96 (omega arith) (omega arith) bad e; ends = ends_at in_raw bytes at raw_allows bad })
stuck_at bytes from at (string o r) bad = string_stuck bytes from at at (record { opens = o; characters = r; unclosed = λ e. unlike bytes at 34 (omega arith) (omega arith) bad e }) (byte_stops 34 bytes at bad)
stuck_at bytes from at (string_escape {at = place} o r f) bad = string_stuck bytes from place at (record { opens = o; characters = r; unclosed = λ e. let b = f.opens in omega (arith, e, b) }) (front_stops 34 bytes place at string_quote f bad)
stuck_at bytes from _ (rune o) bad = rune_no_character bytes from (from + 1) o (byte_stops 39 bytes (from + 1) bad)
stuck_at bytes from at (rune_escape o f) bad = rune_no_character bytes from at o (front_stops 39 bytes (from + 1) at rune_quote f bad)
stuck_at bytes from at (rune_closes o c) bad = rune_unclosed bytes from at o c

-- what could go on begins with no forbidden byte
opens_plain : (bytes : List ℕ) (from at : ℕ) → CanGoOn bytes from at → IsForbidden bytes from → ⊥
opens_plain bytes from at (line o r) bad = unlike bytes from 47 (omega arith) (omega arith) bad o.0
opens_plain bytes from at (general o r i) bad = unlike bytes from 47 (omega arith) (omega arith) bad o.0
opens_plain bytes from at (raw o r) bad = unlike bytes from 96 (omega arith) (omega arith) bad o
opens_plain bytes from at (string o r) bad = unlike bytes from 34 (omega arith) (omega arith) bad o
opens_plain bytes from at (string_escape o r f) bad = unlike bytes from 34 (omega arith) (omega arith) bad o
opens_plain bytes from _ (rune o) bad = unlike bytes from 39 (omega arith) (omega arith) bad o
opens_plain bytes from at (rune_escape o f) bad = unlike bytes from 39 (omega arith) (omega arith) bad o
opens_plain bytes from at (rune_closes o c) bad = unlike bytes from 39 (omega arith) (omega arith) bad o

one_reached : (bytes : List ℕ) (from m n : ℕ) → (m ≡ from) ⊎ CanGoOn bytes from m → IsForbidden bytes m → (n ≡ from) ⊎ CanGoOn bytes from n → IsForbidden bytes n → m ≡ n
one_reached bytes from m n (inl e) bad (inl f) other = e ∙ sym f
one_reached bytes from m n (inl e) bad (inr d) other = absurd (opens_plain bytes from n d (subst (λ (k : ℕ). IsForbidden bytes k) e bad))
one_reached bytes from m n (inr c) bad (inl f) other = absurd (opens_plain bytes from m c (subst (λ (k : ℕ). IsForbidden bytes k) f other))
one_reached bytes from m n (inr c) bad (inr d) other = sym ((stuck_at bytes from m c bad).only n d other)

-- at most one forbidden byte is to blame
pub one_forbidden : (bytes : List ℕ) (at : ℕ) (last : Option TokenKind) (m n : ℕ) → IsForbiddenByte bytes at last m → IsForbiddenByte bytes at last n → m ≡ n
one_forbidden bytes at last m n a b =
    let same : b.place ≡ a.place = one_place bytes at last b.place a.place b.is_place a.is_place in
    let reached : (n ≡ a.place) ⊎ CanGoOn bytes a.place n = rw same at b.reached in
    one_reached bytes a.place m n a.reached a.forbidden reached b.forbidden

abbrev lex_of : ℕ → Rule → Lex
lex_of offset rule = record { offset = offset; rule = rule }

same_lex : (m n : ℕ) (r s : Rule) → m ≡ n → r ≡ s → lex_of m r ≡ lex_of n s
same_lex m n r s e f = cc

-- which rule is broken, and at which byte
abbrev IsBroken : List ℕ → ℕ → Option TokenKind → Lex → Type 0
IsBroken bytes at last e = ((e.rule ≡ forbidden_byte) × IsForbiddenByte bytes at last e.offset) ⊎ ((e.rule ≡ missing_token) × IsMissingToken bytes at last e.offset)

-- a place has at most one lexical fault
pub one_lex : (bytes : List ℕ) (at : ℕ) (last : Option TokenKind) (d e : Lex) → IsLex bytes at last d → IsLex bytes at last e → d ≡ e
one_lex bytes at last d e h g = by_rule h.1 g.1
  where
    by_rule : IsBroken bytes at last d → IsBroken bytes at last e → d ≡ e
    by_rule (inl a) (inl b) = same_lex d.offset e.offset d.rule e.rule (one_forbidden bytes at last d.offset e.offset a.1 b.1) (a.0 ∙ sym b.0)
    by_rule (inl a) (inr b) = absurd (b.1.allowed d.offset a.1)
    by_rule (inr a) (inl b) = absurd (a.1.allowed e.offset b.1)
    by_rule (inr a) (inr b) = same_lex d.offset e.offset d.rule e.rule (one_place bytes at last d.offset e.offset a.1.is_place b.1.is_place) (a.0 ∙ sym b.0)
