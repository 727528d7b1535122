-- Lemmas on one character of a rune or string literal.
use Rattle.std.proofs.Common.{◌≡◌, ◌≢◌, ℕ, zero, suc, ◌+◌, ◌-◌, ◌<◌, ◌≤◌, ◌⊎◌, Bool, true, List, [], ◌∷◌, ◌++◌, length, take, drop, slice_index, Some, refl, sym, ap, subst, ◌∙◌, arith, ⊎_elim, inl, inr, length-append, append_assoc, append-nil, get_or-take, get_or-drop}
use Rattle.std.specs.Prelude.{slice_range}
use Rattle.std.specs.List.{list_all}
use Rattle.std.proofs.lemmas.Bool.{cases_lt, and_parts, and_from, both_ways, not_from_false, ne_eqb, false≢true, true_from_ne_false}
use Rattle.std.proofs.lemmas.Bool.Decides.{nat_tests}
use Rattle.std.proofs.lemmas.List.Folds.{list_all_at}
use Rattle.go_tree.specs.Lexical.Characters.{decoded_at, is_allowed, IsForbidden}
use Rattle.go_tree.specs.Lexical.Literals.{is_escape, is_itself, is_simple_escape, IsCharacter, itself, escaped}
use Rattle.go_tree.specs.Lexical.Faults.{IsEscapeFront}
use Rattle.go_scan.specs.declared.escapes.Digits.{Digits}
use Rattle.go_scan.specs.declared.escapes.Digits.TheVariants.{Octal}
use Rattle.go_scan.specs.Escapes.{is_escape_digit, AreDigits, Stops, IsEscape, IsQuote, NoCharacter}
use Rattle.go_tree.proofs.CharacterRunLemmas.{char_lies}
use Rattle.go_tree.proofs.ByteLemmas.{there, ascii_char, small_char, allowed_char, plain_byte, IsPlain, range_split, range_cons, range_length}
use Rattle.go_scan.proofs.DigitLemmas.{is_digit}
use Rattle.go_scan.proofs.EscapeLemmas.{EscapeCase, simple, octal, marked, escape_case, simple_is, mark_plain, mark_simple, octal_first, from_octal, from_mark}

empty_by_length : (xs : List ℕ) → length xs ≡ 0 → xs ≡ []
empty_by_length [] h = refl
empty_by_length (x ∷ xs) h = absurd (omega arith)

same_digits : (kind : Digits) (xs ys : List ℕ) → AreDigits kind xs → AreDigits kind (xs ++ ys) → ys ≡ []
same_digits kind xs ys a b = let c = a.count in let d = b.count in let l = length-append xs ys in empty_by_length ys (omega arith)

after_simple : (quote e : ℕ) (ys : List ℕ) → IsQuote quote → is_simple_escape quote e ≡ true → EscapeCase quote e ys → ys ≡ []
after_simple quote e ys q h (simple s n) = n
after_simple quote e ys q h (octal a) = absurd (both_ways _ (simple_is quote e q.some q.small h).no_octal (octal_first e ys a))
after_simple quote e ys q h (marked {kind} m a) = absurd (mark_simple kind e m (simple_is quote e q.some q.small h))

after_case : (quote e : ℕ) (xs ys : List ℕ) → IsQuote quote → EscapeCase quote e xs → EscapeCase quote e (xs ++ ys) → ys ≡ []
after_case quote e xs ys q (simple s n) c = after_simple quote e ys q s (subst (λ (zs : List ℕ). EscapeCase quote e (zs ++ ys)) n c)
after_case quote e xs ys q (octal a) c = same_digits Octal (e ∷ xs) ys a (from_octal quote e (xs ++ ys) q (octal_first e xs a) c)
after_case quote e xs ys q (marked {kind} m a) c = same_digits kind xs ys a (from_mark quote e kind (xs ++ ys) q m c)

-- no escape goes on behind its end
pub escape_ends : (quote : ℕ) (xs ys : List ℕ) → IsQuote quote → IsEscape quote xs → IsEscape quote (xs ++ ys) → ys ≡ []
escape_ends quote [] ys q a b = cc
escape_ends quote (e ∷ xs) ys q a b = after_case quote e xs ys q (escape_case quote e xs a) (escape_case quote e (xs ++ ys) b)

pub all_at : (p : ℕ → Bool) (xs : List ℕ) (i : ℕ) → list_all p xs ≡ true → i < length xs → p (slice_index xs i) ≡ true
all_at p xs i all lt = true_from_ne_false _ (λ wrong. both_ways _ (list_all_at p xs i 0 lt wrong) all)

digit_plain : (kind : Digits) (xs : List ℕ) (i : ℕ) → AreDigits kind xs → i < length xs → IsPlain (slice_index xs i)
digit_plain kind xs i a lt = let d = is_digit kind (slice_index xs i) (all_at (is_escape_digit kind) xs i a.digits lt) in (d.some, d.plain)

case_plain : (quote e : ℕ) (xs : List ℕ) (i : ℕ) → IsQuote quote → EscapeCase quote e xs → i < length (e ∷ xs) → IsPlain (slice_index (e ∷ xs) i)
case_plain quote e xs i q (octal a) lt = digit_plain Octal (e ∷ xs) i a lt
case_plain quote e xs zero q (simple s n) lt = let k = simple_is quote e q.some q.small s in (k.some, k.plain)
case_plain quote e xs (suc i) q (simple s n) lt = absurd (let l = ap length n in omega arith)
case_plain quote e xs zero q (marked {kind} m a) lt = mark_plain kind e m
case_plain quote e xs (suc i) q (marked {kind} m a) lt = digit_plain kind xs i a (omega arith)

escape_plain : (quote : ℕ) (xs : List ℕ) (i : ℕ) → IsQuote quote → IsEscape quote xs → i < length xs → IsPlain (slice_index xs i)
escape_plain quote [] i q h lt = absurd (omega arith)
escape_plain quote (e ∷ xs) i q h lt = case_plain quote e xs i q (escape_case quote e xs h) lt

pub in_range : (bytes : List ℕ) (a b k : ℕ) → a ≤ k → k < b → slice_index (slice_range bytes a b) (k - a) ≡ slice_index bytes k
in_range bytes a b k low high =
    let lt : k - a < b - a = omega arith in
    let e : a + (k - a) ≡ k = omega arith in
    get_or-take (b - a) (drop a bytes) (k - a) 0 lt ∙ get_or-drop a bytes (k - a) 0 ∙ ap (λ n. slice_index bytes n) e

-- each byte of an escape is plain
pub bytes_plain : (quote : ℕ) (bytes : List ℕ) (from to k : ℕ) → IsQuote quote → to ≤ length bytes → IsEscape quote (slice_range bytes from to) → from ≤ k → k < to → IsPlain (slice_index bytes k)
bytes_plain quote bytes from to k q within h low high =
    let l = range_length bytes from to (omega arith) within in
    subst IsPlain (in_range bytes from to k low high) (escape_plain quote (slice_range bytes from to) (k - from) q h (omega arith))

-- an escape has a byte behind its backslash
pub escape_some : (quote : ℕ) (bytes : List ℕ) (from to : ℕ) → IsEscape quote (slice_range bytes from to) → from < to
escape_some quote bytes from to h =
    ⊎_elim
    (λ lt. lt)
    (λ (le : to ≤ from). let z : to - from ≡ 0 = omega arith in absurd (false≢true (sym (ap (λ n. is_escape quote (take n (drop from bytes))) z) ∙ h)))
    (cases_lt from to)

pub character_from : (quote : ℕ) (bytes : List ℕ) (from to : ℕ) → IsCharacter quote bytes from to → (from < to) × (to ≤ length bytes)
character_from quote bytes from _ (itself char ok) = let l = char_lies bytes from _ char in (omega (arith, l.some), l.within)
character_from quote bytes from to (escaped opens within h) = let s = escape_some quote bytes (from + 1) to h in (omega arith, within)

-- a byte that is no backslash
pub not_itself : (quote c : ℕ) → c ≡ 92 → is_itself quote c ≡ true → ⊥
not_itself quote c e h = grind (arith, nat_tests)

pub backslash : (bytes : List ℕ) (at c : ℕ) → slice_index bytes at ≡ 92 → (decoded_at bytes at).char ≡ Some c → c ≡ 92
backslash bytes at c opens char =
    let char2 = ascii_char bytes at (there bytes at 92 opens (omega arith)) (omega arith) in
    let e : c ≡ slice_index bytes at = (let both : Some c ≡ Some (slice_index bytes at) = sym char ∙ char2 in cc) in
    e ∙ opens

escape_one : (quote : ℕ) (bytes : List ℕ) (from m n : ℕ) → IsQuote quote → m ≤ n → m ≤ length bytes → n ≤ length bytes → IsEscape quote (slice_range bytes from m) → IsEscape quote (slice_range bytes from n) → m ≡ n
escape_one quote bytes from m n q le mw nw a b =
    let s = escape_some quote bytes from m a in
    let split = range_split bytes from m n (omega arith) le in
    let none = escape_ends quote (slice_range bytes from m) (slice_range bytes m n) q a (sym (ap (is_escape quote) split) ∙ b) in
    let l = range_length bytes m n le nw in
    let z = ap length none in
    omega arith

-- a character has one end
pub character_one : (quote : ℕ) (bytes : List ℕ) (from m n : ℕ) → IsQuote quote → IsCharacter quote bytes from m → IsCharacter quote bytes from n → m ≡ n
character_one quote bytes from _ _ q (itself char ok) (itself char2 ok2) = refl
character_one quote bytes from _ n q (itself char ok) (escaped opens within h) = absurd (not_itself quote _ (backslash bytes from _ opens char) ok)
character_one quote bytes from m _ q (escaped opens within h) (itself char ok) = absurd (not_itself quote _ (backslash bytes from _ opens char) ok)
character_one quote bytes from m n q (escaped opens within h) (escaped opens2 within2 h2) =
    ⊎_elim
    (λ (lt : m < n). escape_one quote bytes (from + 1) m n q (omega arith) within within2 h h2)
    (λ (ge : n ≤ m). sym (escape_one quote bytes (from + 1) n m q ge within2 within h2 h))
    (cases_lt m n)

pub allowed_itself : (quote c : ℕ) → is_itself quote c ≡ true → is_allowed c ≡ true
allowed_itself quote c h = (and_parts _ _ h).0

-- no forbidden byte stands where a character does
pub character_allowed : (quote : ℕ) (bytes : List ℕ) (from to : ℕ) → IsCharacter quote bytes from to → IsForbidden bytes from → ⊥
character_allowed quote bytes from _ (itself {c} char ok) bad = allowed_char bytes from c char (allowed_itself quote c ok) bad
character_allowed quote bytes from to (escaped opens within h) bad = plain_byte bytes from (omega arith, omega arith) bad

-- nor where its escape could still go on
pub front_allowed : (quote : ℕ) (bytes : List ℕ) (from to n : ℕ) → IsQuote quote → IsCharacter quote bytes from to → IsEscapeFront quote bytes from n → IsForbidden bytes n → ⊥
front_allowed quote bytes from _ n q (itself char ok) f bad = not_itself quote _ (backslash bytes from _ f.opens char) ok
front_allowed quote bytes from to n q (escaped opens within h) f bad =
    let behind = f.behind in
    let s = escape_some quote bytes (from + 1) to h in
    ⊎_elim
    (λ (lt : n < to). plain_byte bytes n (bytes_plain quote bytes (from + 1) to n q within h (omega arith) lt) bad)
    (λ (ge : to ≤ n).
    let split = range_split bytes (from + 1) to n (omega arith) ge in
    let e : slice_range bytes (from + 1) n ++ f.rest ≡ slice_range bytes (from + 1) to ++ (slice_range bytes to n ++ f.rest) = ap (λ xs. xs ++ f.rest) split ∙ append_assoc (slice_range bytes (from + 1) to) (slice_range bytes to n) f.rest in
    let none = escape_ends quote (slice_range bytes (from + 1) to) (slice_range bytes to n ++ f.rest) q h (sym (ap (is_escape quote) e) ∙ f.escape) in
    let l = length-append (slice_range bytes to n) f.rest in
    let z = ap length none in
    f.some (empty_by_length f.rest (omega arith)))
    (cases_lt n to)

front_opens : (quote : ℕ) (bytes : List ℕ) (at n : ℕ) → slice_index bytes at ≢ 92 → (n ≡ at) ⊎ IsEscapeFront quote bytes at n → n ≡ at
front_opens quote bytes at n unlike (inl e) = e
front_opens quote bytes at n unlike (inr f) = absurd (unlike f.opens)

none_here : (quote : ℕ) (bytes : List ℕ) (at n : ℕ) → slice_index bytes at ≢ 92 → ((c : ℕ) → (decoded_at bytes at).char ≡ Some c → is_itself quote c ≡ true → ⊥) → IsCharacter quote bytes at n → ⊥
none_here quote bytes at _ unlike fails (itself {c} char ok) = fails c char ok
none_here quote bytes at n unlike fails (escaped opens within h) = unlike opens

-- no character that stands for itself, and no backslash
pub no_character : (quote : ℕ) (bytes : List ℕ) (at : ℕ) → at ≤ length bytes → slice_index bytes at ≢ 92 → ((c : ℕ) → (decoded_at bytes at).char ≡ Some c → is_itself quote c ≡ true → ⊥) → NoCharacter quote bytes at at
no_character quote bytes at le unlike fails = record {
  none = λ n h. none_here quote bytes at n unlike fails h;
  reach = inl refl;
  behind = omega arith;
  within = le;
  only = λ n f bad. front_opens quote bytes at n unlike f;
}

quote_fails : (quote c b : ℕ) → (b ≡ quote) ⊎ (b ≡ 10) → c ≡ b → is_itself quote c ≡ true → ⊥
quote_fails quote c b (inl e) f h = grind (arith, nat_tests)
quote_fails quote c b (inr e) f h = grind (arith, nat_tests)

-- the quote, or a newline
pub no_character_byte : (quote : ℕ) (bytes : List ℕ) (at : ℕ) → IsQuote quote → (slice_index bytes at ≡ quote) ⊎ (slice_index bytes at ≡ 10) → NoCharacter quote bytes at at
no_character_byte quote bytes at q b =
    let k : (0 < slice_index bytes at) × (slice_index bytes at < 92) = ⊎_elim (λ (e : slice_index bytes at ≡ quote). (omega arith, omega arith)) (λ (e : slice_index bytes at ≡ 10). (omega arith, omega arith)) b in
    let lt = there bytes at (slice_index bytes at) refl k.0 in
    no_character quote bytes at (omega arith) (λ e. omega arith) (λ c char ok.
    let char2 = ascii_char bytes at lt (omega arith) in
    let e : c ≡ slice_index bytes at = (let both : Some c ≡ Some (slice_index bytes at) = sym char ∙ char2 in cc) in
    quote_fails quote c (slice_index bytes at) b e ok)

itself_by : (quote c : ℕ) → is_allowed c ≡ true → c ≢ quote → c ≢ 92 → c ≢ 10 → is_itself quote c ≡ true
itself_by quote c ok a b d = and_from _ _ ok (and_from _ _ (not_from_false _ (ne_eqb c quote a)) (and_from _ _ (not_from_false _ (ne_eqb c 92 b)) (not_from_false _ (ne_eqb c 10 d))))

-- a character that stands for itself
pub character_itself : (quote : ℕ) (bytes : List ℕ) (at c size : ℕ) → IsQuote quote → (decoded_at bytes at).char ≡ Some c → size ≡ (decoded_at bytes at).size → is_allowed c ≡ true → slice_index bytes at ≢ quote → slice_index bytes at ≢ 92 → slice_index bytes at ≢ 10 → IsCharacter quote bytes at (at + size)
character_itself quote bytes at c size q char s ok a b d =
    let is = itself_by quote c ok
    (λ e. a (small_char bytes at c char (omega arith) ∙ e))
    (λ e. b (small_char bytes at c char (omega arith) ∙ e))
    (λ e. d (small_char bytes at c char (omega arith) ∙ e)) in
    rw s (itself char is)

-- an escape
pub character_escaped : (quote : ℕ) (bytes : List ℕ) (at to : ℕ) → slice_index bytes at ≡ 92 → to ≤ length bytes → IsEscape quote (slice_range bytes (at + 1) to) → IsCharacter quote bytes at to
character_escaped quote bytes at to opens within h = escaped opens within h

-- a range that goes on behind a place, by the byte there
range_over : (bytes : List ℕ) (from at n : ℕ) (more : List ℕ) → from ≤ at → at < n → at < length bytes → slice_range bytes from n ++ more ≡ slice_range bytes from at ++ slice_index bytes at ∷ (slice_range bytes (at + 1) n ++ more)
range_over bytes from at n more le lt there =
    ap (λ xs. xs ++ more) (range_split bytes from at n le (omega arith) ∙ ap (λ xs. slice_range bytes from at ++ xs) (range_cons bytes at n lt there))
    ∙ append_assoc (slice_range bytes from at) (slice_index bytes at ∷ slice_range bytes (at + 1) n) more

-- where an escape stops, none is whole
pub stops_none : (quote : ℕ) (bytes : List ℕ) (from at n : ℕ) → IsQuote quote → Stops (IsEscape quote) bytes from at → n ≤ length bytes → IsEscape quote (slice_range bytes from n) → ⊥
stops_none quote bytes from at n q s within h =
    let le = s.behind in
    let some = escape_some quote bytes from n h in
    ⊎_elim
    (λ (past : at < n).
    let e = range_over bytes from at n [] le past (omega arith) in
    let f : slice_range bytes from n ++ [] ≡ slice_range bytes from n = append-nil (slice_range bytes from n) in
    s.dead (slice_range bytes (at + 1) n ++ []) (omega arith) (sym (ap (is_escape quote) e) ∙ ap (is_escape quote) f ∙ h))
    (λ (before : n ≤ at).
    let split = range_split bytes from n at (omega arith) before in
    let e : slice_range bytes from at ++ s.rest ≡ slice_range bytes from n ++ (slice_range bytes n at ++ s.rest) = ap (λ xs. xs ++ s.rest) split ∙ append_assoc (slice_range bytes from n) (slice_range bytes n at) s.rest in
    let none = escape_ends quote (slice_range bytes from n) (slice_range bytes n at ++ s.rest) q h (sym (ap (is_escape quote) e) ∙ s.could) in
    let l = length-append (slice_range bytes n at) s.rest in
    let z = ap length none in
    s.some (empty_by_length s.rest (omega arith)))
    (cases_lt at n)

no_itself : (quote : ℕ) (bytes : List ℕ) (at stuck n : ℕ) → IsQuote quote → slice_index bytes at ≡ 92 → Stops (IsEscape quote) bytes (at + 1) stuck → IsCharacter quote bytes at n → ⊥
no_itself quote bytes at stuck _ q opens s (itself {c} char ok) = not_itself quote c (backslash bytes at c opens char) ok
no_itself quote bytes at stuck n q opens s (escaped _ within h) = stops_none quote bytes (at + 1) stuck n q s within h

only_front : (quote : ℕ) (bytes : List ℕ) (at stuck n : ℕ) → IsQuote quote → slice_index bytes at ≡ 92 → Stops (IsEscape quote) bytes (at + 1) stuck → (n ≡ at) ⊎ IsEscapeFront quote bytes at n → IsForbidden bytes n → n ≡ stuck
only_front quote bytes at stuck n q opens s (inl e) bad = absurd (plain_byte bytes n (subst (λ (k : ℕ). IsPlain (slice_index bytes k)) (sym e) (omega arith, omega arith)) bad)
only_front quote bytes at stuck n q opens s (inr f) bad =
    let le = s.behind in
    let behind = f.behind in
    ⊎_elim
    (λ (before : n < stuck). absurd (plain_byte bytes n (s.plain n (omega arith) before) bad))
    (λ (ge : stuck ≤ n). ⊎_elim
    (λ (past : stuck < n).
    let lt = bad.0 in
    let e = range_over bytes (at + 1) stuck n f.rest le past (omega arith) in
    absurd (s.dead (slice_range bytes (stuck + 1) n ++ f.rest) (omega arith) (sym (ap (is_escape quote) e) ∙ f.escape)))
    (λ (same : n ≤ stuck). omega arith)
    (cases_lt stuck n))
    (cases_lt n stuck)

-- an escape that stops
pub no_character_escape : (quote : ℕ) (bytes : List ℕ) (at stuck : ℕ) → IsQuote quote → slice_index bytes at ≡ 92 → Stops (IsEscape quote) bytes (at + 1) stuck → NoCharacter quote bytes at stuck
no_character_escape quote bytes at stuck q opens s = record {
  none = λ n h. no_itself quote bytes at stuck n q opens s h;
  reach = inr (record { opens = opens; behind = let b = s.behind in omega arith; rest = s.rest; some = s.some; escape = s.could });
  behind = let b = s.behind in omega arith;
  within = s.within;
  only = λ n f bad. only_front quote bytes at stuck n q opens s f bad;
}
