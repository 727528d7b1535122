-- Lemmas on tokens and lexemes: with which bytes each begins.
use Rattle.std.proofs.Common.{◌≡◌, ℕ, zero, suc, ◌+◌, ◌-◌, ◌<◌, ◌≤◌, ◌&&◌, ◌||◌, ◌==◌, not, Bool, true, false, List, [], ◌∷◌, length, take, drop, slice_index, slice_range, get_or, Some, refl, arith, length-drop, get_or-drop, get_or-take, length-take-le, sym, ◌∙◌, subst, ap, ⊎_elim, ◌⊎◌, inl, inr, nat_lt}
use Rattle.std.specs.List.{list_all}
use Rattle.std.proofs.lemmas.Bool.{cases_Bool, false≢true, and_parts, eqb-true}
use Rattle.std.proofs.lemmas.Bool.Decides.{nat_tests}
use Rattle.go_tree.specs.declared.token.TokenKind.{TokenKind}
use Rattle.go_tree.specs.declared.token.TokenKind.TheVariants.{Ident, Int, Float, Rune, Text}
use Rattle.go_tree.specs.Lexical.Characters.{decoded_at, is_letter, is_letter_or_digit, Run, none, more}
use Rattle.go_tree.specs.Lexical.Numbers.{is_decimal, IsNumberRun, number_kind}
use Rattle.go_tree.specs.Lexical.Literals.{IsRuneLit, IsInterpretedLit, IsRawLit}
use Rattle.go_tree.specs.Lexical.Tokens.{spelling, IsSpelled, IsWord, IsToken}
use Rattle.go_scan.specs.Ascii.{is_small_letter}
use Rattle.go_scan.specs.Ascii.{is_ascii_letter}
use Rattle.go_scan.proofs.CharacterLemmas.{ascii_letters}
use Rattle.go_tree.proofs.ByteLemmas.{byte_char, byte_size}
use Rattle.go_scan.proofs.WordLemmas.{in_word}

-- a byte that begins an operator or a punctuation mark: printable, and no letter, digit or quote
abbrev pub is_mark : ℕ → Bool
is_mark b = (nat_lt 32 b && nat_lt b 127) && (not (is_ascii_letter b) && (not (is_decimal b) && (not (b == 34) && (not (b == 39) && not (b == 96)))))

abbrev is_dots : List ℕ → Bool
is_dots [] = true
is_dots (c ∷ cs) = c == 46

abbrev is_slash : List ℕ → Bool
is_slash [] = true
is_slash (c ∷ cs) = c == 61

-- a keyword has small letters alone; of what begins with `.` there are `.` and `...`, and of what
-- begins with `/` there are `/` and `/=`
abbrev has_shape : List ℕ → Bool
has_shape [] = true
has_shape (f ∷ rest) = list_all is_small_letter (f ∷ rest) || (is_mark f && ((not (f == 46) || is_dots rest) && (not (f == 47) || is_slash rest)))

spelling_shape : (kind : TokenKind) → has_shape (spelling kind) ≡ true
spelling_shape Ident = refl
spelling_shape _ = refl

-- bytes of a slice
pub slice_at : (bytes : List ℕ) (from n i : ℕ) → i < n - from → get_or (slice_range bytes from n) i 0 ≡ slice_index bytes (from + i)
slice_at bytes from n i lt = rw get_or-take (get_or-drop from bytes i 0)

pub slice_len : (bytes : List ℕ) (from n : ℕ) → n ≤ length bytes → length (slice_range bytes from n) ≡ n - from
slice_len bytes from n le = let d = length-drop from bytes in length-take-le (n - from) (drop from bytes) (omega (arith, d, le))

small_below : (b : ℕ) → is_small_letter b ≡ true → (n : ℕ) × (b ≡ suc n) × (suc n < 128)
small_below zero h = absurd (false≢true h)
small_below (suc n) h = (n, refl, below n h)
  where
    below : (n : ℕ) → is_small_letter (suc n) ≡ true → suc n < 128
    below n h = grind (arith, nat_tests)

small_letter : (b : ℕ) → is_small_letter b ≡ true → is_letter b ≡ true
small_letter b h = ascii_letters b (small_lt b h) ∙ small_ascii b h
  where
    small_lt : (b : ℕ) → is_small_letter b ≡ true → b < 128
    small_lt b h = grind (arith, nat_tests)

    small_ascii : (b : ℕ) → is_small_letter b ≡ true → is_ascii_letter b ≡ true
    small_ascii b h = grind (arith, nat_tests)

letter_passes : (b : ℕ) → is_letter b ≡ true → is_letter_or_digit b ≡ true
letter_passes b h = rw h refl

-- small letters go on a run
letters_run : (bytes : List ℕ) (from at : ℕ) (text : List ℕ) → Run in_word bytes from at → ((i : ℕ) → i < length text → slice_index bytes (at + i) ≡ get_or text i 0) → list_all is_small_letter text ≡ true → Run in_word bytes from (at + length text)
letters_run bytes from at [] r here all = let e : at + 0 ≡ at = omega arith in rw e r
letters_run bytes from at (c ∷ text) r here all =
    let both = and_parts (is_small_letter c) (list_all is_small_letter text) all in
    let small = small_below c both.0 in
    let e : at + 0 ≡ at = omega arith in
    let first : slice_index bytes at ≡ c = rw e at (here 0 (omega arith)) in
    let byte : slice_index bytes at ≡ suc small.0 = first ∙ small.1 in
    let char : (decoded_at bytes at).char ≡ Some c = byte_char bytes at small.0 byte small.2 ∙ ap Some (sym small.1) in
    let size = byte_size bytes at small.0 byte small.2 in
    let next : Run in_word bytes from (at + 1) = rw size at (more r char (letter_passes c (small_letter c both.0))) in
    let shift : at + 1 + length text ≡ at + length (c ∷ text) = omega arith in
    subst (λ n. Run in_word bytes from n) shift (letters_run bytes from (at + 1) text next (λ i lt. let move : at + 1 + i ≡ at + suc i = omega arith in rw move (here (suc i) (omega (arith, lt)))) both.1)

-- what a keyword, an operator or a punctuation mark stands at
pub data SpelledAt (bytes : List ℕ) (from n : ℕ) : Type 0 where
  word : is_small_letter (slice_index bytes from) ≡ true → IsWord bytes from n → SpelledAt bytes from n
  mark : is_mark (slice_index bytes from) ≡ true → (slice_index bytes from ≡ 46 → (n ≡ from + 1) ⊎ (slice_index bytes (from + 1) ≡ 46)) → (slice_index bytes from ≡ 47 → (n ≡ from + 1) ⊎ (slice_index bytes (from + 1) ≡ 61)) → SpelledAt bytes from n

shape_mark : (f : ℕ) (rest : List ℕ) → list_all is_small_letter (f ∷ rest) ≡ false → has_shape (f ∷ rest) ≡ true → (is_mark f ≡ true) × ((not (f == 46) || is_dots rest) ≡ true) × ((not (f == 47) || is_slash rest) ≡ true)
shape_mark f rest apart h =
    let p = and_parts (is_mark f) ((not (f == 46) || is_dots rest) && (not (f == 47) || is_slash rest)) (rw apart at h) in
    let q = and_parts (not (f == 46) || is_dots rest) (not (f == 47) || is_slash rest) p.1 in
    (p.0, q.0, q.1)

dots_second : (f : ℕ) (rest : List ℕ) → (not (f == 46) || is_dots rest) ≡ true → f ≡ 46 → (length rest ≡ 0) ⊎ (get_or rest 0 0 ≡ 46)
dots_second f [] h e = inl refl
dots_second f (c ∷ rest) h e = inr (eqb-true c 46 (rw e at h))

slash_second : (f : ℕ) (rest : List ℕ) → (not (f == 47) || is_slash rest) ≡ true → f ≡ 47 → (length rest ≡ 0) ⊎ (get_or rest 0 0 ≡ 61)
slash_second f [] h e = inl refl
slash_second f (c ∷ rest) h e = inr (eqb-true c 61 (rw e at h))

word_of_letters : (bytes : List ℕ) (from : ℕ) (f : ℕ) (rest : List ℕ) → ((i : ℕ) → i < suc (length rest) → slice_index bytes (from + i) ≡ get_or (f ∷ rest) i 0) → list_all is_small_letter (f ∷ rest) ≡ true → IsWord bytes from (from + suc (length rest))
word_of_letters bytes from f rest here all =
    let both = and_parts (is_small_letter f) (list_all is_small_letter rest) all in
    let small = small_below f both.0 in
    let e : from + 0 ≡ from = omega arith in
    let first : slice_index bytes from ≡ f = rw e at (here 0 (omega arith)) in
    let byte : slice_index bytes from ≡ suc small.0 = first ∙ small.1 in
    let char : (decoded_at bytes from).char ≡ Some f = byte_char bytes from small.0 byte small.2 ∙ ap Some (sym small.1) in
    let size = byte_size bytes from small.0 byte small.2 in
    let shift : from + 1 + length rest ≡ from + suc (length rest) = omega arith in
    let run : Run in_word bytes (from + 1) (from + 1 + length rest) = letters_run bytes (from + 1) (from + 1) rest none (λ i lt. let move : from + 1 + i ≡ from + suc i = omega arith in rw move (here (suc i) (omega (arith, lt)))) both.1 in
    record { first = f; char = char; letter = small_letter f both.0; others = rw size (subst (λ n. Run in_word bytes (from + 1) n) shift run) }

text_at : (bytes : List ℕ) (from n : ℕ) (text : List ℕ) → text ≡ slice_range bytes from n → n ≤ length bytes → (length text ≡ n - from) × ((i : ℕ) → i < length text → slice_index bytes (from + i) ≡ get_or text i 0)
text_at bytes from n text e le =
    let len : length text ≡ n - from = ap length e ∙ slice_len bytes from n le in
    (len, λ i lt. sym (ap (λ t. get_or t i 0) e ∙ slice_at bytes from n i (omega (arith, lt, len))))

spelled_shape : (bytes : List ℕ) (from n : ℕ) (text : List ℕ) → has_shape text ≡ true → text ≡ slice_range bytes from n → n ≤ length bytes → 0 < length text → SpelledAt bytes from n
spelled_shape bytes from n [] shape e le some = absurd (omega (arith, some))
spelled_shape bytes from n (f ∷ rest) shape e le some =
    let t = text_at bytes from n (f ∷ rest) e le in
    let len = t.0 in
    let zero_at : from + 0 ≡ from = omega arith in
    let first : slice_index bytes from ≡ f = rw zero_at at (t.1 0 (omega arith)) in
    ⊎_elim
    (λ (letters : list_all is_small_letter (f ∷ rest) ≡ true).
    let to : from + suc (length rest) ≡ n = omega (arith, len) in
    word (rw first (and_parts (is_small_letter f) (list_all is_small_letter rest) letters).0) (subst (λ m. IsWord bytes from m) to (word_of_letters bytes from f rest t.1 letters)))
    (λ (other : list_all is_small_letter (f ∷ rest) ≡ false).
    let m = shape_mark f rest other shape in
    mark (rw first m.0) (λ dot. second bytes from n f 46 rest len t.1 (dots_second f rest m.1 (sym first ∙ dot))) (λ slash. second bytes from n f 61 rest len t.1 (slash_second f rest m.2 (sym first ∙ slash))))
    (cases_Bool (list_all is_small_letter (f ∷ rest)))
  where
    second : (bytes : List ℕ) (from n f b : ℕ) (rest : List ℕ) → suc (length rest) ≡ n - from → ((i : ℕ) → i < suc (length rest) → slice_index bytes (from + i) ≡ get_or (f ∷ rest) i 0) → (length rest ≡ 0) ⊎ (get_or rest 0 0 ≡ b) → (n ≡ from + 1) ⊎ (slice_index bytes (from + 1) ≡ b)
    second bytes from n f b rest len here (inl alone) = inl (omega (arith, len, alone))
    second bytes from n f b [] len here (inr next) = inl (omega (arith, len))
    second bytes from n f b (c ∷ rest) len here (inr next) = inr (here 1 (omega arith) ∙ next)

pub spelled_at : (bytes : List ℕ) (kind : TokenKind) (from n : ℕ) → n ≤ length bytes → IsSpelled kind (slice_range bytes from n) → SpelledAt bytes from n
spelled_at bytes kind from n le h = spelled_shape bytes from n (spelling kind) (spelling_shape kind) h.0 le (rw h.0 h.1)

-- what a token is, by its form
pub data Form (bytes : List ℕ) (kind : TokenKind) (from to : ℕ) : Type 0 where
  word : kind ≡ Ident → IsWord bytes from to → ((k : TokenKind) → IsSpelled k (slice_range bytes from to) → ⊥) → Form bytes kind from to
  number : IsNumberRun bytes from to → number_kind (slice_range bytes from to) ≡ Some kind → Form bytes kind from to
  rune : kind ≡ Rune → IsRuneLit bytes from to → Form bytes kind from to
  interpreted : kind ≡ Text → IsInterpretedLit bytes from to → Form bytes kind from to
  raw : kind ≡ Text → IsRawLit bytes from to → Form bytes kind from to
  spelled : IsSpelled kind (slice_range bytes from to) → Form bytes kind from to

text_form : (bytes : List ℕ) (from to : ℕ) → IsInterpretedLit bytes from to ⊎ IsRawLit bytes from to → Form bytes Text from to
text_form bytes from to (inl h) = interpreted refl h
text_form bytes from to (inr h) = raw refl h

pub form_of : (bytes : List ℕ) (kind : TokenKind) (from to : ℕ) → IsToken bytes kind from to → Form bytes kind from to
form_of bytes Ident from to h = word refl h.0 h.1
form_of bytes Int from to h = number h.0 h.1
form_of bytes Float from to h = number h.0 h.1
form_of bytes Rune from to h = rune refl h
form_of bytes Text from to h = text_form bytes from to h
form_of bytes _ from to h = spelled h

front_one : (ys : List ℕ) → 1 ≤ length ys → take 1 ys ≡ get_or ys 0 0 ∷ []
front_one [] le = absurd (omega arith)
front_one (x ∷ ys) le = refl

pub slice_one : (bytes : List ℕ) (from : ℕ) → from + 1 ≤ length bytes → slice_range bytes from (from + 1) ≡ slice_index bytes from ∷ []
slice_one bytes from le =
    let len : from + 1 - from ≡ 1 = omega arith in
    let there : 1 ≤ length (drop from bytes) = omega (arith, length-drop from bytes) in
    let first : from + 0 ≡ from = omega arith in
    rw len (front_one (drop from bytes) there ∙ rw (get_or-drop from bytes 0 0, first) refl)

-- a small letter is a word
pub small_word : (bytes : List ℕ) (from : ℕ) → is_small_letter (slice_index bytes from) ≡ true → IsWord bytes from (from + 1)
small_word bytes from h = word_of_letters bytes from (slice_index bytes from) [] here (rw h refl)
  where
    here : (i : ℕ) → i < 1 → slice_index bytes (from + i) ≡ get_or (slice_index bytes from ∷ []) i 0
    here zero lt = let e : from + 0 ≡ from = omega arith in rw e refl
    here (suc i) lt = absurd (omega (arith, lt))
