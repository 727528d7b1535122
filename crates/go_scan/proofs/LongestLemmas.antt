-- Lemmas on the longest token at an offset, by what begins there, and on which byte is to blame
-- where none starts.
use Rattle.std.proofs.Common.{◌≡◌, ℕ, suc, ◌+◌, ◌<◌, ◌≤◌, true, false, List, length, slice_index, slice_range, Some, None, refl, arith, ◌∙◌, ap, ⊎_elim, ◌⊎◌, inl, inr}
use Rattle.std.proofs.lemmas.Bool.{cases_lt, cases_Bool}
use Rattle.std.proofs.lemmas.Bool.Decides.{nat_tests}
use Rattle.go_tree.specs.declared.token.TokenKind.{TokenKind}
use Rattle.go_tree.specs.declared.token.TokenKind.TheVariants.{Ident, Int, Float, Rune, Text}
use Rattle.go_tree.specs.Lexical.Characters.{is_allowed, IsForbidden}
use Rattle.go_tree.specs.Lexical.Comments.{OpensLine, OpensGeneral}
use Rattle.go_tree.specs.Lexical.Numbers.{begins_number, IsNumberRun, number_kind}
use Rattle.go_tree.specs.Lexical.Literals.{IsRuneLit, IsInterpretedLit, IsRawLit}
use Rattle.go_tree.specs.Lexical.Tokens.{IsSpelled, IsWord, IsToken, IsLexeme, IsLongest}
use Rattle.go_tree.specs.Lexical.Faults.{CanGoOn, line, general, raw, string, string_escape, rune, rune_escape, rune_closes}
use Rattle.go_scan.specs.Blame.{IsBlamed, OpensLiteral}
use Rattle.go_scan.specs.Reading.{IsStuck}
use Rattle.go_tree.proofs.ByteLemmas.{byte_char, allowed_char}
use Rattle.go_scan.specs.Ascii.{is_small_letter}
use Rattle.go_scan.proofs.LexemeLemmas.{Form, form_of, small_word, SpelledAt, spelled_at, slice_at}
use Rattle.go_scan.proofs.WordLemmas.{word_within}
use Rattle.go_scan.proofs.QuotedLemmas.{one_rune, one_interpreted}
use Rattle.go_scan.proofs.RawLemmas.{one_raw}
use Rattle.go_scan.proofs.TokenLemmas.{word_alone, number_alone, quote_alone, other_alone, number_no_word, number_spelled, not_number, word_no_mark, Quoted}

-- words
pub word_is_longest : (bytes : List ℕ) (kind : TokenKind) (from to : ℕ) → IsWord bytes from to → ((n : ℕ) → IsWord bytes from n → n ≤ to) → to ≤ length bytes → IsToken bytes kind from to → IsLongest bytes kind from to
word_is_longest bytes kind from to w ends within token = record {
  within = within;
  token = token;
  longest = λ n lt le l. let other = ends n (word_alone bytes from to n w le l) in omega (arith, lt, other);
}

-- a keyword is a token of its kind
pub spelled_token : (bytes : List ℕ) (kind : TokenKind) (from to : ℕ) → IsSpelled kind (slice_range bytes from to) → IsToken bytes kind from to
spelled_token bytes Ident from to s = absurd (let len : 0 ≡ length (slice_range bytes from to) = ap length s.0 in let some = s.1 in omega (arith, some, len))
spelled_token bytes Int from to s = absurd (let len : 0 ≡ length (slice_range bytes from to) = ap length s.0 in let some = s.1 in omega (arith, some, len))
spelled_token bytes Float from to s = absurd (let len : 0 ≡ length (slice_range bytes from to) = ap length s.0 in let some = s.1 in omega (arith, some, len))
spelled_token bytes Rune from to s = absurd (let len : 0 ≡ length (slice_range bytes from to) = ap length s.0 in let some = s.1 in omega (arith, some, len))
spelled_token bytes Text from to s = absurd (let len : 0 ≡ length (slice_range bytes from to) = ap length s.0 in let some = s.1 in omega (arith, some, len))
spelled_token bytes _ from to s = s

-- numbers
pub number_is_longest : (bytes : List ℕ) (kind : TokenKind) (from to : ℕ) → IsNumberRun bytes from to → ((n : ℕ) → IsNumberRun bytes from n → n ≤ to) → from < to → to ≤ length bytes → IsToken bytes kind from to → IsLongest bytes kind from to
number_is_longest bytes kind from to run ends some within token = record {
  within = within;
  token = token;
  longest = longer;
}
  where
    longer : (n : ℕ) → to < n → n ≤ length bytes → IsLexeme bytes from n → ⊥
    longer n lt le l = ⊎_elim
        (λ (short : n ≡ from + 1). omega (arith, lt, some, short))
        (λ (other : IsNumberRun bytes from n). let past = ends n other in omega (arith, lt, past))
        (number_alone bytes from n run.0 le l)

pub number_token_of : (bytes : List ℕ) (kind : TokenKind) (from to : ℕ) → IsNumberRun bytes from to → number_kind (slice_range bytes from to) ≡ Some kind → (kind ≡ Int) ⊎ (kind ≡ Float) → IsToken bytes kind from to
number_token_of bytes kind from to run is (inl int) = let e : number_kind (slice_range bytes from to) ≡ Some Int = is ∙ ap Some int in rw int (run, e)
number_token_of bytes kind from to run is (inr float) = let e : number_kind (slice_range bytes from to) ≡ Some Float = is ∙ ap Some float in rw float (run, e)

-- where a number begins that is no literal, no token stands
pub no_number_token : (bytes : List ℕ) (from to : ℕ) → IsNumberRun bytes from to → ((n : ℕ) → IsNumberRun bytes from n → n ≤ to) → from < to → to ≤ length bytes → (slice_index bytes from ≡ 46 → from + 2 ≤ to) → None ≡ number_kind (slice_range bytes from to) → (kind : TokenKind) (n : ℕ) → IsLongest bytes kind from n → ⊥
no_number_token bytes from to run ends some within point is kind n h = at (form_of bytes kind from n h.token)
  where
    reaches : to ≤ n
    reaches = ⊎_elim
        (λ (lt : n < to). absurd (h.longest to lt within (inr (inl run))))
        (λ (ge : to ≤ n). ge)
        (cases_lt n to)

    at : Form bytes kind from n → ⊥
    at (Form.word k w o) = number_no_word bytes from n run.0 w
    at (Form.number r k) =
        let same : n ≡ to = omega (arith, reaches, ends n r) in
        let other : number_kind (slice_range bytes from to) ≡ Some kind = rw same at k in
        none_some (is ∙ other)
      where
        none_some : None ≡ Some kind → ⊥
        none_some e = cc
    at (Form.rune k x) = not_number bytes from 39 x.opens refl (λ e. omega (arith, e)) run.0
    at (Form.interpreted k x) = not_number bytes from 34 x.opens refl (λ e. omega (arith, e)) run.0
    at (Form.raw k x) = not_number bytes from 96 x.opens refl (λ e. omega (arith, e)) run.0
    at (Form.spelled s) = let p = number_spelled bytes kind from n h.within run.0 s in let two = point p.1 in omega (arith, p.0, two, reaches)

-- quotes
pub quote_is_longest : (bytes : List ℕ) (kind : TokenKind) (from to : ℕ) → OpensLiteral (slice_index bytes from) → ((n : ℕ) → Quoted bytes from n → n ≤ to) → to ≤ length bytes → IsToken bytes kind from to → IsLongest bytes kind from to
quote_is_longest bytes kind from to q ends within token = record {
  within = within;
  token = token;
  longest = λ n lt le l. let past = ends n (quote_alone bytes from n q le l) in omega (arith, lt, past);
}

pub no_quoted_token : (bytes : List ℕ) (from : ℕ) → OpensLiteral (slice_index bytes from) → ((n : ℕ) → Quoted bytes from n → ⊥) → (kind : TokenKind) (n : ℕ) → IsLongest bytes kind from n → ⊥
no_quoted_token bytes from q nothing kind n h = nothing n (quote_alone bytes from n q h.within (inl (kind, h.token)))

pub rune_alone : (bytes : List ℕ) (from n : ℕ) → slice_index bytes from ≡ 39 → Quoted bytes from n → IsRuneLit bytes from n
rune_alone bytes from n e (inl x) = x
rune_alone bytes from n e (inr (inl x)) = absurd (omega (arith, e, x.opens))
rune_alone bytes from n e (inr (inr x)) = absurd (omega (arith, e, x.opens))

pub interpreted_alone : (bytes : List ℕ) (from n : ℕ) → slice_index bytes from ≡ 34 → Quoted bytes from n → IsInterpretedLit bytes from n
interpreted_alone bytes from n e (inl x) = absurd (omega (arith, e, x.opens))
interpreted_alone bytes from n e (inr (inl x)) = x
interpreted_alone bytes from n e (inr (inr x)) = absurd (omega (arith, e, x.opens))

pub raw_alone : (bytes : List ℕ) (from n : ℕ) → slice_index bytes from ≡ 96 → Quoted bytes from n → IsRawLit bytes from n
raw_alone bytes from n e (inl x) = absurd (omega (arith, e, x.opens))
raw_alone bytes from n e (inr (inl x)) = absurd (omega (arith, e, x.opens))
raw_alone bytes from n e (inr (inr x)) = x

pub rune_is_longest : (bytes : List ℕ) (from to : ℕ) → slice_index bytes from ≡ 39 → IsRuneLit bytes from to → to ≤ length bytes → IsLongest bytes Rune from to
rune_is_longest bytes from to e lit within = quote_is_longest bytes Rune from to (inl e) (λ n q. let same = one_rune bytes from n to (rune_alone bytes from n e q) lit in omega (arith, same)) within lit

pub interpreted_is_longest : (bytes : List ℕ) (from to : ℕ) → slice_index bytes from ≡ 34 → IsInterpretedLit bytes from to → to ≤ length bytes → IsLongest bytes Text from to
interpreted_is_longest bytes from to e lit within = quote_is_longest bytes Text from to (inr (inl e)) (λ n q. let same = one_interpreted bytes from n to (interpreted_alone bytes from n e q) lit in omega (arith, same)) within (inl lit)

pub raw_is_longest : (bytes : List ℕ) (from to : ℕ) → slice_index bytes from ≡ 96 → IsRawLit bytes from to → to ≤ length bytes → IsLongest bytes Text from to
raw_is_longest bytes from to e lit within = quote_is_longest bytes Text from to (inr (inr e)) (λ n q. let same = one_raw bytes from n to (raw_alone bytes from n e q) lit in omega (arith, same)) within (inr lit)

-- operators and punctuation
pub mark_is_longest : (bytes : List ℕ) (kind : TokenKind) (from to : ℕ) → to ≤ length bytes → ((n : ℕ) → IsWord bytes from n → ⊥) → begins_number bytes from ≡ false → (OpensLiteral (slice_index bytes from) → ⊥) → (OpensLine bytes from → ⊥) → (OpensGeneral bytes from → ⊥) → IsSpelled kind (slice_range bytes from to) → ((k : TokenKind) (n : ℕ) → to < n → n ≤ length bytes → IsSpelled k (slice_range bytes from n) → ⊥) → IsLongest bytes kind from to
mark_is_longest bytes kind from to within not_word no_num no_quote no_line no_general s ends = record {
  within = within;
  token = spelled_token bytes kind from to s;
  longest = λ n lt le l. let other = other_alone bytes from n (not_word n) no_num no_quote no_line no_general l in ends other.0 n lt le other.1;
}

pub no_mark_token : (bytes : List ℕ) (from : ℕ) → ((n : ℕ) → IsWord bytes from n → ⊥) → begins_number bytes from ≡ false → (OpensLiteral (slice_index bytes from) → ⊥) → (OpensLine bytes from → ⊥) → (OpensGeneral bytes from → ⊥) → ((k : TokenKind) (n : ℕ) → n ≤ length bytes → IsSpelled k (slice_range bytes from n) → ⊥) → (kind : TokenKind) (n : ℕ) → IsLongest bytes kind from n → ⊥
no_mark_token bytes from not_word no_num no_quote no_line no_general nothing kind n h = let other = other_alone bytes from n (not_word n) no_num no_quote no_line no_general (inl (kind, h.token)) in nothing other.0 n h.within other.1

-- where neither a quote nor a comment stands, nothing could go on
pub nothing_goes_on : (bytes : List ℕ) (from n : ℕ) → (OpensLiteral (slice_index bytes from) → ⊥) → (OpensLine bytes from → ⊥) → (OpensGeneral bytes from → ⊥) → CanGoOn bytes from n → ⊥
nothing_goes_on bytes from n no_quote no_line no_general (line o r) = no_line o
nothing_goes_on bytes from n no_quote no_line no_general (general o r i) = no_general o
nothing_goes_on bytes from n no_quote no_line no_general (raw o r) = no_quote (inr (inr o))
nothing_goes_on bytes from n no_quote no_line no_general (string o r) = no_quote (inr (inl o))
nothing_goes_on bytes from n no_quote no_line no_general (string_escape o r e) = no_quote (inr (inl o))
nothing_goes_on bytes from _ no_quote no_line no_general (rune o) = no_quote (inl o)
nothing_goes_on bytes from n no_quote no_line no_general (rune_escape o e) = no_quote (inl o)
nothing_goes_on bytes from n no_quote no_line no_general (rune_closes o c) = no_quote (inl o)

pub blamed_here : (bytes : List ℕ) (from : ℕ) → (OpensLiteral (slice_index bytes from) → ⊥) → (OpensLine bytes from → ⊥) → (OpensGeneral bytes from → ⊥) → IsBlamed bytes from from
blamed_here bytes from no_quote no_line no_general = record { reached = inl refl; only = alone }
  where
    alone : (n : ℕ) → (n ≡ from) ⊎ CanGoOn bytes from n → IsForbidden bytes n → n ≡ from
    alone n (inl e) f = e
    alone n (inr could) f = absurd (nothing_goes_on bytes from n no_quote no_line no_general could)

number_no_quote : (bytes : List ℕ) (from : ℕ) → begins_number bytes from ≡ true → OpensLiteral (slice_index bytes from) → ⊥
number_no_quote bytes from h (inl e) = not_number bytes from 39 e refl (λ x. omega (arith, x)) h
number_no_quote bytes from h (inr (inl e)) = not_number bytes from 34 e refl (λ x. omega (arith, x)) h
number_no_quote bytes from h (inr (inr e)) = not_number bytes from 96 e refl (λ x. omega (arith, x)) h

pub number_blamed : (bytes : List ℕ) (from : ℕ) → begins_number bytes from ≡ true → IsBlamed bytes from from
number_blamed bytes from h = blamed_here bytes from (number_no_quote bytes from h) (λ o. not_number bytes from 47 o.0 refl (λ x. omega (arith, x)) h) (λ o. not_number bytes from 47 o.0 refl (λ x. omega (arith, x)) h)

-- where reading is stuck behind an ASCII byte, that byte is not to blame
pub stuck_blamed : (bytes : List ℕ) (from at b : ℕ) → slice_index bytes from ≡ suc b → suc b < 128 → IsStuck bytes from at → IsBlamed bytes from at
stuck_blamed bytes from at b byte lt s = record { reached = inr s.could; only = alone }
  where
    small : (b : ℕ) → suc b < 128 → is_allowed (suc b) ≡ true
    small b h = grind (arith, nat_tests)

    alone : (n : ℕ) → (n ≡ from) ⊎ CanGoOn bytes from n → IsForbidden bytes n → n ≡ at
    alone n (inl e) f = let other : IsForbidden bytes from = rw e at f in absurd (allowed_char bytes from (suc b) (byte_char bytes from b byte lt) (small b lt) other)
    alone n (inr could) f = s.only n could f

-- where no word stands, no small letter does
pub no_small_letter : (bytes : List ℕ) (from : ℕ) → ((n : ℕ) → IsWord bytes from n → ⊥) → is_small_letter (slice_index bytes from) ≡ false
no_small_letter bytes from not_word = ⊎_elim
    (λ (yes : is_small_letter (slice_index bytes from) ≡ true). absurd (not_word (from + 1) (small_word bytes from yes)))
    (λ (other : is_small_letter (slice_index bytes from) ≡ false). other)
    (cases_Bool (is_small_letter (slice_index bytes from)))

-- a word that is no keyword is an identifier
pub ident_token : (bytes : List ℕ) (from to : ℕ) → IsWord bytes from to → to ≤ length bytes → ((kind : TokenKind) → is_small_letter (slice_index (slice_range bytes from to) 0) ≡ true → IsSpelled kind (slice_range bytes from to) → ⊥) → IsToken bytes Ident from to
ident_token bytes from to w within none = (w, other)
  where
    other : (kind : TokenKind) → IsSpelled kind (slice_range bytes from to) → ⊥
    other kind s = at (spelled_at bytes kind from to within s)
      where
        first : slice_index (slice_range bytes from to) 0 ≡ slice_index bytes from
        first = let some = (word_within bytes from to w).0 in let e : from + 0 ≡ from = omega arith in slice_at bytes from to 0 (omega (arith, some)) ∙ ap (λ i. slice_index bytes i) e

        at : SpelledAt bytes from to → ⊥
        at (SpelledAt.word small x) = none kind (rw first small) s
        at (SpelledAt.mark m dots slash) = word_no_mark bytes from to w m

pub third_quote : (b : ℕ) → OpensLiteral b → (b ≡ 39 → ⊥) → (b ≡ 34 → ⊥) → b ≡ 96
third_quote b (inl e) first second = absurd (first e)
third_quote b (inr (inl e)) first second = absurd (second e)
third_quote b (inr (inr e)) first second = e
