-- Lemmas on the strings that interpreted string literals stand for.
use Rattle.std.proofs.Common.{◌≡◌, ◌≢◌, ℕ, zero, suc, ◌+◌, ◌^◌, ◌<◌, ◌≤◌, ◌⊎◌, true, false, List, [], ◌∷◌, ◌++◌, length, take, drop, slice_index, refl, sym, ap, subst, ◌∙◌, arith, ⊎_elim, inl, inr}
use Rattle.std.specs.Prelude.{slice_range, encode_utf8, ◌==◌, ◌||◌}
use Rattle.std.proofs.lemmas.Bool.{cases_Bool, cond-true, cond-false, ne_eqb, leb-true, or_right}
use Rattle.std.specs.Char.{OutOfScalarRange}
use Rattle.std.proofs.lemmas.Str.{length-encode, len_utf8_bounds}
use Rattle.std.proofs.lemmas.Bool.Decides.{nat_tests}
use Rattle.std.proofs.Math.Seq.{take-append_seam, drop-append_seam}
use Rattle.go_tree.specs.Lexical.Numbers.{is_either, is_octal}
use Rattle.go_tree.specs.Lexical.Literals.{is_escape, is_simple_escape, is_valid_code_point, number_in}
use Rattle.go_tree.specs.Lexical.LiteralValues.{escape_len, escape_text, escape_value, is_hex_escape, simple_value, unescaped}
use Rattle.go_scan.specs.declared.escapes.Digits.{Digits}
use Rattle.go_scan.specs.declared.escapes.Digits.TheVariants.{Octal, Byte, Little, Big}
use Rattle.go_scan.specs.Escapes.{AreDigits, IsEscape, IsQuote}
use Rattle.go_scan.specs.Quoted.{Escapes, done, byte, escape, IsEscapeText}
use Rattle.go_tree.proofs.ByteLemmas.{range_cons, range_split, range_length}
use Rattle.go_scan.proofs.EscapeLemmas.{IsMark, EscapeCase, simple, octal, marked, escape_case, simple_is, octal_first, from_mark}
use Rattle.go_scan.proofs.LiteralCharacterLemmas.{escape_some}
use Rattle.go_scan.proofs.QuotedLemmas.{string_quote}
use Rattle.go_scan.proofs.ValueLemmas.{number_small}

len_simple : (quote e : ℕ) (ys : List ℕ) → IsQuote quote → is_simple_escape quote e ≡ true → escape_len (e ∷ ys) ≡ 1
len_simple quote e ys q h = let s = simple_is quote e q.some q.small h in let a = s.no_octal in let b = s.no_byte in let c = s.no_little in let d = s.no_big in grind (arith, nat_tests)

len_octal : (e : ℕ) (ys : List ℕ) → is_octal e ≡ true → escape_len (e ∷ ys) ≡ 3
len_octal e ys h = cond-true ((e == 120) || is_octal e) _ _ (or_right (e == 120) (is_octal e) h)

len_marked : (kind : Digits) (e : ℕ) (ys xs : List ℕ) → IsMark kind e → AreDigits kind xs → escape_len (e ∷ ys) ≡ suc (length xs)
len_marked Octal e ys xs m a = absurd m
len_marked Byte e ys xs m a = let c = a.count in subst (λ (k : ℕ). escape_len (k ∷ ys) ≡ suc (length xs)) (sym m) (let t : 3 ≡ suc (length xs) = omega arith in t)
len_marked Little e ys xs m a = let c = a.count in subst (λ (k : ℕ). escape_len (k ∷ ys) ≡ suc (length xs)) (sym m) (let t : 5 ≡ suc (length xs) = omega arith in t)
len_marked Big e ys xs m a = let c = a.count in subst (λ (k : ℕ). escape_len (k ∷ ys) ≡ suc (length xs)) (sym m) (let t : 9 ≡ suc (length xs) = omega arith in t)

len_case : (quote e : ℕ) (xs ys : List ℕ) → IsQuote quote → EscapeCase quote e xs → escape_len (e ∷ ys) ≡ length (e ∷ xs)
len_case quote e xs ys q (simple s n) = len_simple quote e ys q s ∙ sym (ap (λ l. length (e ∷ l)) n)
len_case quote e xs ys q (octal a) = len_octal e ys (octal_first e xs a) ∙ sym a.count
len_case quote e xs ys q (marked {kind} m a) = len_marked kind e ys xs m a

-- the first byte of an escape says how long it is
pub escape_length : (quote : ℕ) (xs ys : List ℕ) → IsQuote quote → IsEscape quote xs → escape_len (xs ++ ys) ≡ length xs
escape_length quote [] ys q h = cc
escape_length quote (e ∷ xs) ys q h = len_case quote e xs (xs ++ ys) q (escape_case quote e xs h)

skip : (n : ℕ) (xs : List ℕ) → unescaped n xs ≡ unescaped 0 (drop n xs)
skip zero xs = refl
skip (suc n) [] = refl
skip (suc n) (x ∷ xs) = skip n xs

-- a byte that stands for itself
pub unescaped_byte : (bytes : List ℕ) (at close : ℕ) → at < close → at < length bytes → slice_index bytes at ≢ 92 → unescaped 0 (slice_range bytes at close) ≡ slice_index bytes at ∷ unescaped 0 (slice_range bytes (at + 1) close)
unescaped_byte bytes at close lt there ne =
    ap (λ xs. unescaped 0 xs) (range_cons bytes at close lt there) ∙ cond-false (slice_index bytes at == 92) _ _ (ne_eqb _ _ ne)

behind_backslash : (xs ys : List ℕ) → escape_len (xs ++ ys) ≡ length xs → unescaped 0 (92 ∷ (xs ++ ys)) ≡ escape_text xs ++ unescaped 0 ys
behind_backslash xs ys e =
    ap (λ n. escape_text (take n (xs ++ ys)) ++ unescaped n (xs ++ ys)) e
    ∙ ap (λ t. escape_text t ++ unescaped (length xs) (xs ++ ys)) (take-append_seam xs ys)
    ∙ ap (λ t. escape_text xs ++ t) (skip (length xs) (xs ++ ys) ∙ ap (λ t. unescaped 0 t) (drop-append_seam xs ys))

-- an escape
pub unescaped_escape : (bytes : List ℕ) (at to close : ℕ) → slice_index bytes at ≡ 92 → IsEscape 34 (slice_range bytes (at + 1) to) → to ≤ close → close ≤ length bytes → unescaped 0 (slice_range bytes at close) ≡ escape_text (slice_range bytes (at + 1) to) ++ unescaped 0 (slice_range bytes to close)
unescaped_escape bytes at to close opens h le within =
    let s = escape_some 34 bytes (at + 1) to h in
    let cons = range_cons bytes at close (omega arith) (omega arith) in
    let split = range_split bytes (at + 1) to close (omega arith) le in
    ap (λ xs. unescaped 0 xs) (cons ∙ ap (λ b. b ∷ slice_range bytes (at + 1) close) opens ∙ ap (λ xs. 92 ∷ xs) split)
    ∙ behind_backslash (slice_range bytes (at + 1) to) (slice_range bytes to close) (escape_length 34 (slice_range bytes (at + 1) to) (slice_range bytes to close) string_quote h)

pub escapes_from : {bytes : List ℕ} {close at : ℕ} → Escapes bytes close at → (at ≤ close) × (close ≤ length bytes)
escapes_from (done le) = (omega arith, le)
escapes_from (byte lt ne rest) = (omega arith, (escapes_from rest).1)
escapes_from {bytes} (escape {at} {to} opens h le rest) = let s = escape_some 34 bytes (at + 1) to h in (omega arith, (escapes_from rest).1)

-- behind a byte that stands for itself
pub escapes_byte : {bytes : List ℕ} {close at : ℕ} → Escapes bytes close at → at < close → slice_index bytes at ≢ 92 → Escapes bytes close (at + 1)
escapes_byte (done le) lt ne = absurd (omega arith)
escapes_byte (byte _ _ rest) lt ne = rest
escapes_byte (escape opens _ _ _) lt ne = absurd (ne opens)

-- an escape, and what stands behind it
pub record EscapeThere (bytes : List ℕ) (close at : ℕ) : Type 0 where
  pub to : ℕ
  pub is : IsEscape 34 (slice_range bytes (at + 1) to)
  pub size : to ≡ at + 1 + escape_len (slice_index bytes (at + 1) ∷ [])
  pub within : to ≤ close
  pub rest : Escapes bytes close to

size_of : (bytes : List ℕ) (from to : ℕ) → to ≤ length bytes → IsEscape 34 (slice_range bytes from to) → to ≡ from + escape_len (slice_index bytes from ∷ [])
size_of bytes from to within h =
    let s = escape_some 34 bytes from to h in
    let l = range_length bytes from to (omega arith) within in
    let cons = range_cons bytes from to s (omega arith) in
    let e : escape_len (slice_index bytes from ∷ []) ≡ length (slice_index bytes from ∷ slice_range bytes (from + 1) to) = len_case 34 (slice_index bytes from) (slice_range bytes (from + 1) to) [] string_quote (escape_case 34 (slice_index bytes from) (slice_range bytes (from + 1) to) (sym (ap (λ xs. is_escape 34 xs) cons) ∙ h)) in
    let f = e ∙ sym (ap length cons) ∙ l in
    omega arith

pub escape_there : {bytes : List ℕ} {close at : ℕ} → Escapes bytes close at → slice_index bytes at ≡ 92 → at < close → EscapeThere bytes close at
escape_there (done le) opens lt = absurd (omega arith)
escape_there (byte _ ne _) opens lt = absurd (ne opens)
escape_there {bytes} (escape {at} {to} _ h le rest) opens lt = let f = escapes_from rest in record { to = to; is = h; size = size_of bytes (at + 1) to (omega arith) h; within = le; rest = rest }

hex_value : (kind : Digits) (e : ℕ) (xs : List ℕ) → IsMark kind e → escape_value (e ∷ xs) ≡ number_in 16 xs
hex_value Octal e xs m = absurd m
hex_value Byte e xs m = subst (λ (k : ℕ). escape_value (k ∷ xs) ≡ number_in 16 xs) (sym m) refl
hex_value Little e xs m = subst (λ (k : ℕ). escape_value (k ∷ xs) ≡ number_in 16 xs) (sym m) refl
hex_value Big e xs m = subst (λ (k : ℕ). escape_value (k ∷ xs) ≡ number_in 16 xs) (sym m) refl

code_value : (quote e : ℕ) (xs : List ℕ) → IsQuote quote → IsEscape quote (e ∷ xs) → (e ≡ 117) ⊎ (e ≡ 85) → is_valid_code_point (escape_value (e ∷ xs)) ≡ true
code_value quote e xs q h (inl m) = ap is_valid_code_point (hex_value Little e xs m) ∙ (from_mark quote e Little xs q m (escape_case quote e xs h)).value
code_value quote e xs q h (inr m) = ap is_valid_code_point (hex_value Big e xs m) ∙ (from_mark quote e Big xs q m (escape_case quote e xs h)).value

-- `\u` and `\U` stand for valid code points
pub code_escape : (quote : ℕ) (text : List ℕ) → IsQuote quote → IsEscape quote text → (slice_index text 0 ≡ 117) ⊎ (slice_index text 0 ≡ 85) → is_valid_code_point (escape_value text) ≡ true
code_escape quote [] q h m = cc
code_escape quote (e ∷ xs) q h m = code_value quote e xs q h m

simple_below : (e : ℕ) → e < 128 → simple_value e < 256
simple_below e small = grind (arith, nat_tests)

plain_value : (e : ℕ) (xs : List ℕ) → is_octal e ≡ false → e ≢ 120 → e ≢ 117 → e ≢ 85 → escape_value (e ∷ xs) ≡ simple_value e
plain_value e xs a b c d =
    let f : is_hex_escape e ≡ false = grind (arith, nat_tests) in
    cond-false (is_hex_escape e) _ _ f ∙ cond-false (is_octal e) _ _ a

octal_value : (e : ℕ) (xs : List ℕ) → is_octal e ≡ true → escape_value (e ∷ xs) ≡ number_in 8 (e ∷ xs)
octal_value e xs a =
    let f : is_hex_escape e ≡ false = grind (arith, nat_tests) in
    cond-false (is_hex_escape e) _ _ f ∙ cond-true (is_octal e) _ _ a

byte_case : (quote e : ℕ) (xs : List ℕ) → IsQuote quote → EscapeCase quote e xs → e ≢ 117 → e ≢ 85 → escape_value (e ∷ xs) < 256
byte_case quote e xs q (simple s n) a b = let k = simple_is quote e q.some q.small s in let v = plain_value e xs k.no_octal k.no_byte k.no_little k.no_big in let f = simple_below e k.plain in omega arith
byte_case quote e xs q (octal d) a b = let v = octal_value e xs (octal_first e xs d) in let f : number_in 8 (e ∷ xs) ≤ 255 = leb-true _ _ d.value in omega arith
byte_case quote e xs q (marked {kind = Octal} m d) a b = absurd m
byte_case quote e xs q (marked {kind = Byte} m d) a b = let v = hex_value Byte e xs m in let f = number_small Byte xs d.digits in let p : 16 ^ length xs ≡ 256 = ap (λ k. 16 ^ k) d.count in omega arith
byte_case quote e xs q (marked {kind = Little} m d) a b = absurd (a m)
byte_case quote e xs q (marked {kind = Big} m d) a b = absurd (b m)

-- the other escapes stand for bytes
pub byte_escape : (quote : ℕ) (text : List ℕ) → IsQuote quote → IsEscape quote text → slice_index text 0 ≢ 117 → slice_index text 0 ≢ 85 → escape_value text < 256
byte_escape quote [] q h a b = cc
byte_escape quote (e ∷ xs) q h a b = byte_case quote e xs q (escape_case quote e xs h) a b

-- a valid code point is a character
pub out_of_range : (c : ℕ) → is_valid_code_point c ≡ true → OutOfScalarRange c → ⊥
out_of_range c v (inl h) = grind (arith, nat_tests)
out_of_range c v (inr h) = grind (arith, nat_tests)

long_mark : (e : ℕ) → is_either 117 e ≡ true → 4 ≤ escape_len (e ∷ [])
long_mark e mark = grind (arith, nat_tests)

text_case : (quote e : ℕ) (xs : List ℕ) → IsQuote quote → EscapeCase quote e xs → length (escape_text (e ∷ xs)) ≤ length (e ∷ xs)
text_case quote e xs q c =
    let n = len_case quote e xs [] q c in
    ⊎_elim
    (λ (mark : is_either 117 e ≡ true).
    let t : length (escape_text (e ∷ xs)) ≡ length (encode_utf8 (number_in 16 xs)) = ap length (cond-true (is_either 117 e) (encode_utf8 (number_in 16 xs)) _ mark) in
    let u = length-encode (number_in 16 xs) in
    let b = len_utf8_bounds (number_in 16 xs) in
    let k : 4 ≤ escape_len (e ∷ []) = long_mark e mark in
    omega (arith, t, u, b.1, n, k))
    (λ (other : is_either 117 e ≡ false).
    let t : length (escape_text (e ∷ xs)) ≡ 1 = ap length (cond-false (is_either 117 e) (encode_utf8 (number_in 16 xs)) (escape_value (e ∷ xs) ∷ []) other) in
    omega arith)
    (cases_Bool (is_either 117 e))

-- an escape stands for no more bytes than it has
text_short : (quote : ℕ) (xs : List ℕ) → IsQuote quote → IsEscape quote xs → length (escape_text xs) ≤ length xs
text_short quote [] q h = omega arith
text_short quote (e ∷ xs) q h = text_case quote e xs q (escape_case quote e xs h)

-- an escape with its backslash
pub record NextEscape (bytes : List ℕ) (close at to : ℕ) : Type 0 where
  pub within : to ≤ close
  pub inside : to ≤ length bytes
  pub rest : Escapes bytes close to
  pub is : IsEscapeText (slice_range bytes (at + 1) to)
  pub short : at + length (escape_text (slice_range bytes (at + 1) to)) ≤ to
  pub value : unescaped 0 (slice_range bytes at close) ≡ escape_text (slice_range bytes (at + 1) to) ++ unescaped 0 (slice_range bytes to close)

pub next_escape : (bytes : List ℕ) (close at size : ℕ) → Escapes bytes close at → at < close → slice_index bytes at ≡ 92 → size ≡ escape_len (slice_index bytes (at + 1) ∷ []) → NextEscape bytes close at (at + 1 + size)
next_escape bytes close at size s lt opens e =
    let t = escape_there s opens lt in
    let f = escapes_from s in
    let within = t.within in
    let some = escape_some 34 bytes (at + 1) t.to t.is in
    let l = range_length bytes (at + 1) t.to (omega arith) (omega (arith, f.1)) in
    let short = text_short 34 (slice_range bytes (at + 1) t.to) string_quote t.is in
    let same : t.to ≡ at + 1 + size = t.size ∙ ap (λ n. at + 1 + n) (sym e) in
    subst (λ (n : ℕ). NextEscape bytes close at n) same (record {
      within = within;
      inside = omega (arith, f.1);
      rest = t.rest;
      is = record { quote = 34; is_quote = string_quote; is = t.is };
      short = omega arith;
      value = unescaped_escape bytes at t.to close opens t.is within f.1;
    })
