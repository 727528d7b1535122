-- Lemmas on rune literals and interpreted string literals.
use Rattle.std.proofs.Common.{◌≡◌, ◌≢◌, ℕ, ◌+◌, ◌<◌, ◌≤◌, ◌⊎◌, List, length, slice_index, refl, sym, ap, subst, ◌∙◌, arith, ⊎_elim, inl, inr}
use Rattle.std.proofs.lemmas.Bool.{cases_lt, cases_order}
use Rattle.go_tree.specs.Lexical.Characters.{IsForbidden}
use Rattle.go_tree.specs.Lexical.Literals.{IsCharacter, AreCharacters, none, more, IsRuneLit, IsInterpretedLit}
use Rattle.go_tree.specs.Lexical.Faults.{CanGoOn, IsEscapeFront}
use Rattle.go_scan.specs.Escapes.{IsQuote, NoCharacter}
use Rattle.go_scan.specs.Reading.{IsStuck}
use Rattle.go_tree.proofs.ByteLemmas.{there}
use Rattle.go_scan.proofs.LiteralCharacterLemmas.{character_from, character_one, character_allowed, front_allowed, no_character_byte}

pub rune_quote : IsQuote 39
rune_quote = record { some = omega arith; small = omega arith }

pub string_quote : IsQuote 34
string_quote = record { some = omega arith; small = omega arith }

-- ---- rune literals

pub rune_whole : (bytes : List ℕ) (from close : ℕ) → slice_index bytes from ≡ 39 → IsCharacter 39 bytes (from + 1) close → slice_index bytes close ≡ 39 → IsRuneLit bytes from (close + 1)
rune_whole bytes from close opens inside closes = record { opens = opens; close = close; inside = inside; closes = closes; ends = refl }

-- where a rune literal could still go on
rune_front : (bytes : List ℕ) (from n : ℕ) → slice_index bytes from ≡ 39 → CanGoOn bytes from n → ((n ≡ from + 1) ⊎ IsEscapeFront 39 bytes (from + 1) n) ⊎ IsCharacter 39 bytes (from + 1) n
rune_front bytes from n o (CanGoOn.line opens run) = absurd (let a = opens.0 in omega (arith, a))
rune_front bytes from n o (CanGoOn.general opens run rest) = absurd (let a = opens.0 in omega (arith, a))
rune_front bytes from n o (CanGoOn.raw opens run) = absurd (omega arith)
rune_front bytes from n o (CanGoOn.string opens run) = absurd (omega arith)
rune_front bytes from n o (CanGoOn.string_escape opens run escape) = absurd (omega arith)
rune_front bytes from _ o (CanGoOn.rune opens) = inl (inl refl)
rune_front bytes from n o (CanGoOn.rune_escape opens escape) = inl (inr escape)
rune_front bytes from n o (CanGoOn.rune_closes opens whole) = inr whole

rune_could : (bytes : List ℕ) (from at : ℕ) → slice_index bytes from ≡ 39 → (at ≡ from + 1) ⊎ IsEscapeFront 39 bytes (from + 1) at → CanGoOn bytes from at
rune_could bytes from at o (inl e) = subst (λ (n : ℕ). CanGoOn bytes from n) (sym e) (CanGoOn.rune o)
rune_could bytes from at o (inr f) = CanGoOn.rune_escape o f

-- no character stands behind the quote
pub rune_no_character : (bytes : List ℕ) (from at : ℕ) → slice_index bytes from ≡ 39 → NoCharacter 39 bytes (from + 1) at → IsStuck bytes from at
rune_no_character bytes from at o no_char = record {
  could = rune_could bytes from at o no_char.reach;
  behind = let b = no_char.behind in omega arith;
  within = no_char.within;
  only = λ n can bad. ⊎_elim (λ f. no_char.only n f bad) (λ whole. absurd (no_char.none n whole)) (rune_front bytes from n o can);
}

pub rune_none : (bytes : List ℕ) (from at to : ℕ) → NoCharacter 39 bytes (from + 1) at → IsRuneLit bytes from to → ⊥
rune_none bytes from at to no_char lit = no_char.none lit.close lit.inside

-- no quote stands behind the character
pub rune_unclosed : (bytes : List ℕ) (from at : ℕ) → slice_index bytes from ≡ 39 → IsCharacter 39 bytes (from + 1) at → IsStuck bytes from at
rune_unclosed bytes from at o whole = record {
  could = CanGoOn.rune_closes o whole;
  behind = let b = character_from 39 bytes (from + 1) at whole in omega (arith, b.0);
  within = (character_from 39 bytes (from + 1) at whole).1;
  only = λ n can bad.
      ⊎_elim
      (λ f. absurd (⊎_elim
      (λ (e : n ≡ from + 1). character_allowed 39 bytes (from + 1) at whole (subst (λ (k : ℕ). IsForbidden bytes k) e bad))
      (λ (e : IsEscapeFront 39 bytes (from + 1) n). front_allowed 39 bytes (from + 1) at n rune_quote whole e bad)
      f))
      (λ other. character_one 39 bytes (from + 1) n at rune_quote other whole)
      (rune_front bytes from n o can);
}

pub rune_unclosed_none : (bytes : List ℕ) (from at to : ℕ) → IsCharacter 39 bytes (from + 1) at → slice_index bytes at ≢ 39 → IsRuneLit bytes from to → ⊥
rune_unclosed_none bytes from at to whole unclosed lit =
    let e = character_one 39 bytes (from + 1) lit.close at rune_quote lit.inside whole in
    unclosed (sym (ap (λ n. slice_index bytes n) e) ∙ lit.closes)

pub one_rune : (bytes : List ℕ) (from m n : ℕ) → IsRuneLit bytes from m → IsRuneLit bytes from n → m ≡ n
one_rune bytes from m n a b =
    let e = character_one 39 bytes (from + 1) a.close b.close rune_quote a.inside b.inside in
    let f = a.ends in
    let g = b.ends in
    omega arith

-- a rune literal has both its quotes, and lies within the text
pub rune_lit_within : (bytes : List ℕ) (from to : ℕ) → IsRuneLit bytes from to → (from + 2 ≤ to) × (to ≤ length bytes)
rune_lit_within bytes from to lit =
    let t = there bytes lit.close 39 lit.closes (omega arith) in
    let f = character_from 39 bytes (from + 1) lit.close lit.inside in
    let e = lit.ends in
    (omega (arith, f.0), omega arith)

-- ---- interpreted string literals

-- the same characters, by their first
pub data CharactersOn (quote : ℕ) (bytes : List ℕ) : ℕ → ℕ → Type 0 where
  stop : {at : ℕ} → CharactersOn quote bytes at at
  step : {at next to : ℕ} → IsCharacter quote bytes at next → CharactersOn quote bytes next to → CharactersOn quote bytes at to

behind : {quote : ℕ} {bytes : List ℕ} {from at to : ℕ} → CharactersOn quote bytes from at → IsCharacter quote bytes at to → CharactersOn quote bytes from to
behind stop c = step c stop
behind (step d rest) c = step d (behind rest c)

pub characters_on : {quote : ℕ} {bytes : List ℕ} {from to : ℕ} → AreCharacters quote bytes from to → CharactersOn quote bytes from to
characters_on none = stop
characters_on (more r c) = behind (characters_on r) c

pub on_from : {quote : ℕ} {bytes : List ℕ} {from to : ℕ} → CharactersOn quote bytes from to → from ≤ to
on_from stop = omega arith
on_from (step c rest) = let f = character_from _ _ _ _ c in omega (arith, f.0, on_from rest)

pub characters_from : {quote : ℕ} {bytes : List ℕ} {from to : ℕ} → AreCharacters quote bytes from to → from ≤ to
characters_from r = on_from (characters_on r)

-- where no character stands
abbrev pub EndsThere : ℕ → List ℕ → ℕ → Type 0
EndsThere quote bytes at = (n : ℕ) → IsCharacter quote bytes at n → ⊥

moved : {quote : ℕ} {bytes : List ℕ} {a b to : ℕ} → a ≡ b → CharactersOn quote bytes a to → CharactersOn quote bytes b to
moved {quote} {bytes} {a} {b} {to} e r = subst (λ (k : ℕ). CharactersOn quote bytes k to) e r

longest : {quote : ℕ} {bytes : List ℕ} {from to n : ℕ} → IsQuote quote → CharactersOn quote bytes from to → EndsThere quote bytes to → CharactersOn quote bytes from n → n ≤ to
longest q r e stop = on_from r
longest q stop e (step c rest) = absurd (e _ c)
longest q (step d r) e (step c rest) = longest q r e (moved (character_one _ _ _ _ _ q c d) rest)

inner : {quote : ℕ} {bytes : List ℕ} {from to n : ℕ} → IsQuote quote → CharactersOn quote bytes from to → CharactersOn quote bytes from n → n < to → (m : ℕ) × IsCharacter quote bytes n m
inner q stop s lt = absurd (omega (arith, on_from s))
inner q (step d r) stop lt = (_, d)
inner q (step d r) (step c rest) lt = inner q r (moved (character_one _ _ _ _ _ q c d) rest) lt

-- where no character of a string stands, and no quote
pub record StringEnds (bytes : List ℕ) (from at : ℕ) : Type 0 where
  pub opens : slice_index bytes from ≡ 34
  pub characters : AreCharacters 34 bytes (from + 1) at
  pub unclosed : slice_index bytes at ≢ 34

-- inside a string stands no quote
no_quote : (bytes : List ℕ) (at n : ℕ) → slice_index bytes at ≡ 34 → IsCharacter 34 bytes at n → ⊥
no_quote bytes at n e c =
    let k = no_character_byte 34 bytes at string_quote (inl e) in
    k.none n c

pub string_none : (bytes : List ℕ) (from at stuck to : ℕ) → StringEnds bytes from at → NoCharacter 34 bytes at stuck → IsInterpretedLit bytes from to → ⊥
string_none bytes from at stuck to e no_char lit =
    let r = characters_on e.characters in
    let s = characters_on lit.inside in
    ⊎_elim
    (λ (lt : lit.close < at). let i = inner string_quote r s lt in no_quote bytes lit.close i.0 lit.closes i.1)
    (λ (ge : at ≤ lit.close).
    let le = longest string_quote r no_char.none s in
    let same : lit.close ≡ at = omega arith in
    e.unclosed (sym (ap (λ n. slice_index bytes n) same) ∙ lit.closes))
    (cases_lt lit.close at)

-- where a string could still go on
data StringFront (bytes : List ℕ) (from n : ℕ) : Type 0 where
  between : AreCharacters 34 bytes (from + 1) n → StringFront bytes from n
  within : {at : ℕ} → AreCharacters 34 bytes (from + 1) at → IsEscapeFront 34 bytes at n → StringFront bytes from n

string_front : (bytes : List ℕ) (from n : ℕ) → slice_index bytes from ≡ 34 → CanGoOn bytes from n → StringFront bytes from n
string_front bytes from n o (CanGoOn.line opens run) = absurd (let a = opens.0 in omega (arith, a))
string_front bytes from n o (CanGoOn.general opens run rest) = absurd (let a = opens.0 in omega (arith, a))
string_front bytes from n o (CanGoOn.raw opens run) = absurd (omega arith)
string_front bytes from n o (CanGoOn.string opens run) = between run
string_front bytes from n o (CanGoOn.string_escape opens run escape) = within run escape
string_front bytes from _ o (CanGoOn.rune opens) = absurd (omega arith)
string_front bytes from n o (CanGoOn.rune_escape opens escape) = absurd (omega arith)
string_front bytes from n o (CanGoOn.rune_closes opens whole) = absurd (omega arith)

string_could : (bytes : List ℕ) (from at stuck : ℕ) → StringEnds bytes from at → (stuck ≡ at) ⊎ IsEscapeFront 34 bytes at stuck → CanGoOn bytes from stuck
string_could bytes from at stuck e (inl same) = subst (λ (n : ℕ). CanGoOn bytes from n) (sym same) (CanGoOn.string e.opens e.characters)
string_could bytes from at stuck e (inr f) = CanGoOn.string_escape e.opens e.characters f

only_string : (bytes : List ℕ) (from at stuck n : ℕ) → StringEnds bytes from at → NoCharacter 34 bytes at stuck → StringFront bytes from n → IsForbidden bytes n → n ≡ stuck
only_string bytes from at stuck n e no_char (between run) bad =
    let r = characters_on e.characters in
    let s = characters_on run in
    ⊎_elim
    (λ (lt : n < at). let i = inner string_quote r s lt in absurd (character_allowed 34 bytes n i.0 i.1 bad))
    (λ (ge : at ≤ n). let le = longest string_quote r no_char.none s in no_char.only n (inl (omega arith)) bad)
    (cases_lt n at)
only_string bytes from at stuck n e no_char (within {at = place} run f) bad =
    let r = characters_on e.characters in
    let s = characters_on run in
    ⊎_elim
    (λ (lt : place < at). let i = inner string_quote r s lt in absurd (front_allowed 34 bytes place i.0 n string_quote i.1 f bad))
    (λ (ge : at ≤ place).
    let le = longest string_quote r no_char.none s in
    let same : place ≡ at = omega arith in
    no_char.only n (inr (subst (λ (k : ℕ). IsEscapeFront 34 bytes k n) same f)) bad)
    (cases_lt place at)

pub string_stuck : (bytes : List ℕ) (from at stuck : ℕ) → StringEnds bytes from at → NoCharacter 34 bytes at stuck → IsStuck bytes from stuck
string_stuck bytes from at stuck e no_char = record {
  could = string_could bytes from at stuck e no_char.reach;
  behind = let b = no_char.behind in omega (arith, characters_from e.characters);
  within = no_char.within;
  only = λ n can bad. only_string bytes from at stuck n e no_char (string_front bytes from n e.opens can) bad;
}

pub string_whole : (bytes : List ℕ) (from at : ℕ) → slice_index bytes from ≡ 34 → AreCharacters 34 bytes (from + 1) at → slice_index bytes at ≡ 34 → IsInterpretedLit bytes from (at + 1)
string_whole bytes from at opens run closes = record { opens = opens; close = at; inside = run; closes = closes; ends = refl }

pub one_interpreted : (bytes : List ℕ) (from m n : ℕ) → IsInterpretedLit bytes from m → IsInterpretedLit bytes from n → m ≡ n
one_interpreted bytes from m n a b =
    let e = a.ends in
    let f = b.ends in
    let r = characters_on a.inside in
    let s = characters_on b.inside in
    ⊎_elim
    (λ (same : a.close ≡ b.close). omega arith)
    (⊎_elim
    (λ (lt : a.close < b.close). let i = inner string_quote s r lt in absurd (no_quote bytes a.close i.0 a.closes i.1))
    (λ (gt : b.close < a.close). let i = inner string_quote r s gt in absurd (no_quote bytes b.close i.0 b.closes i.1)))
    (cases_order a.close b.close)

-- a string literal has both its quotes, and lies within the text
pub interpreted_lit_within : (bytes : List ℕ) (from to : ℕ) → IsInterpretedLit bytes from to → (from + 2 ≤ to) × (to ≤ length bytes)
interpreted_lit_within bytes from to lit =
    let t = there bytes lit.close 34 lit.closes (omega arith) in
    let f = characters_from lit.inside in
    let e = lit.ends in
    (omega arith, omega arith)

-- one more character, as a loop takes it
pub characters_more : (bytes : List ℕ) (from at to : ℕ) → AreCharacters 34 bytes (from + 1) at → IsCharacter 34 bytes at to → AreCharacters 34 bytes (from + 1) to
characters_more bytes from at to r c = more r c
