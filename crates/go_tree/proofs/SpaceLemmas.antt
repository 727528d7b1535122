-- Lemmas on comments and `Space`: where they lie, and that each has one end.
use Rattle.std.proofs.Common.{◌≡◌, ℕ, zero, suc, ◌+◌, ◌<◌, ◌≤◌, true, List, length, slice_index, Some, ◌⊎◌, refl, arith, sym, ◌∙◌, ⊎_elim}
use Rattle.std.proofs.lemmas.Bool.{cases_lt, cases_order, false≢true, and_parts}
use Rattle.std.proofs.lemmas.Bool.Decides.{nat_tests}
use Rattle.go_tree.specs.Lexical.Characters.{decoded_at, is_allowed, is_white_space, byte_order_mark, Ends}
use Rattle.go_tree.specs.Lexical.Comments.{OpensLine, OpensGeneral, Closes, IsOpen, IsLineComment, IsGeneralComment, in_line_comment}
use Rattle.go_tree.specs.Lexical.Scan.{Space, white, line, general, mark, IsFirstNewline}
use Rattle.go_tree.proofs.ByteLemmas.{byte_within, byte_char}
use Rattle.go_tree.proofs.CharacterRunLemmas.{run_from, run_within, run_one_end, char_lies}

pub opens_within : (bytes : List ℕ) (from : ℕ) → OpensLine bytes from → from + 2 ≤ length bytes
opens_within bytes from h = let b = byte_within bytes (from + 1) 46 h.1 in omega (arith, b)

pub opens_general_within : (bytes : List ℕ) (from : ℕ) → OpensGeneral bytes from → from + 2 ≤ length bytes
opens_general_within bytes from h = let b = byte_within bytes (from + 1) 41 h.1 in omega (arith, b)

pub closes_within : (bytes : List ℕ) (at : ℕ) → Closes bytes at → at + 2 ≤ length bytes
closes_within bytes at h = let b = byte_within bytes (at + 1) 46 h.1 in omega (arith, b)

pub some_same : (a b : ℕ) → Some a ≡ Some b → a ≡ b
some_same a b e = cc

-- a byte order mark does not begin with an ASCII byte
pub no_mark : (bytes : List ℕ) (at b : ℕ) → slice_index bytes at ≡ suc b → suc b < 128 → (decoded_at bytes at).char ≡ Some byte_order_mark → ⊥
no_mark bytes at b h lt char = let same = some_same (suc b) byte_order_mark (sym (byte_char bytes at b h lt) ∙ char) in omega (arith, same, lt)

pub slash_no_blank : (b : ℕ) → b ≡ 47 → is_white_space b ≡ true → ⊥
slash_no_blank b e h = false≢true (rw e at h)

-- a blank is one of four bytes
pub blank_byte : (b : ℕ) → is_white_space b ≡ true → (n : ℕ) × (b ≡ suc n) × (suc n < 33)
blank_byte zero h = absurd (false≢true h)
blank_byte (suc n) h = (n, refl, small n h)
  where
    small : (n : ℕ) → is_white_space (suc n) ≡ true → suc n < 33
    small n h = grind (arith, nat_tests)

-- where a line comment ends, its run ends
pub line_ends : (bytes : List ℕ) (to : ℕ) → (to ≡ length bytes) ⊎ (slice_index bytes to ≡ 10) → Ends in_line_comment bytes to
line_ends bytes to end c char passes = ⊎_elim
    (λ (last : to ≡ length bytes). let l = char_lies bytes to c char in let w = l.within in let s = l.some in omega (arith, w, s, last))
    (λ (newline : slice_index bytes to ≡ 10).
    let ten = byte_char bytes to 9 newline (omega arith) in
    let same : Some c ≡ Some 10 = sym char ∙ ten in
    let c10 : c ≡ 10 = some_same c 10 same in
    let no = (and_parts (is_allowed c) _ passes).1 in
    false≢true (rw c10 at no))
    end

-- a comment has one end
pub one_line_comment : (bytes : List ℕ) (from m n : ℕ) → IsLineComment bytes from m → IsLineComment bytes from n → m ≡ n
one_line_comment bytes from m n a b = run_one_end a.inside (line_ends bytes m a.ends) b.inside (line_ends bytes n b.ends)

one_close : (bytes : List ℕ) (from m n : ℕ) → from ≤ m → Closes bytes m → IsOpen bytes from (n + 1) → n ≤ m
one_close bytes from m n le closes opened = ⊎_elim
    (λ (lt : m < n). absurd (opened m le (omega (arith, lt)) closes))
    (λ (ge : n ≤ m). ge)
    (cases_lt m n)

pub one_general_comment : (bytes : List ℕ) (from m n : ℕ) → IsGeneralComment bytes from m → IsGeneralComment bytes from n → m ≡ n
one_general_comment bytes from m n a b =
    let below = one_close bytes (from + 2) a.close b.close (run_from a.inside) a.closes b.first in
    let above = one_close bytes (from + 2) b.close a.close (run_from b.inside) b.closes a.first in
    omega (arith, below, above, a.ends, b.ends)

-- space with its bounds
pub record Lies (bytes : List ℕ) (at to : ℕ) : Type 0 where
  pub space : Space bytes at to
  pub behind : at < to
  pub within : to ≤ length bytes

pub blank_lies : (bytes : List ℕ) (at : ℕ) → is_white_space (slice_index bytes at) ≡ true → Lies bytes at (at + 1)
blank_lies bytes at h =
    let b = blank_byte (slice_index bytes at) h in
    let w = byte_within bytes at b.0 b.1 in
    record { space = white h; behind = omega arith; within = omega (arith, w) }

pub mark_lies : (bytes : List ℕ) (at to : ℕ) → at ≡ 0 → (decoded_at bytes at).char ≡ Some byte_order_mark → to ≡ at + (decoded_at bytes at).size → Lies bytes at to
mark_lies bytes at to start char end =
    let l = char_lies bytes at byte_order_mark char in
    record { space = rw end (mark start char); behind = rw end (omega (arith, l.some)); within = rw end l.within }

-- one space stands at an offset
pub one_space : (bytes : List ℕ) (at m n : ℕ) → Space bytes at m → Space bytes at n → m ≡ n
one_space bytes at m n (white a) (white b) = refl
one_space bytes at m n (white a) (line b) = absurd (slash_no_blank _ b.opens.0 a)
one_space bytes at m n (white a) (general b) = absurd (slash_no_blank _ b.opens.0 a)
one_space bytes at m n (white a) (mark start char) = let b = blank_byte _ a in absurd (no_mark bytes at b.0 b.1 (let lt = b.2 in omega (arith, lt)) char)
one_space bytes at m n (line a) (white b) = absurd (slash_no_blank _ a.opens.0 b)
one_space bytes at m n (line a) (line b) = one_line_comment bytes at m n a b
one_space bytes at m n (line a) (general b) = absurd (omega (arith, a.opens.1, b.opens.1))
one_space bytes at m n (line a) (mark start char) = absurd (no_mark bytes at 46 a.opens.0 (omega arith) char)
one_space bytes at m n (general a) (white b) = absurd (slash_no_blank _ a.opens.0 b)
one_space bytes at m n (general a) (line b) = absurd (omega (arith, a.opens.1, b.opens.1))
one_space bytes at m n (general a) (general b) = one_general_comment bytes at m n a b
one_space bytes at m n (general a) (mark start char) = absurd (no_mark bytes at 46 a.opens.0 (omega arith) char)
one_space bytes at m n (mark start char) (white b) = let c = blank_byte _ b in absurd (no_mark bytes at c.0 c.1 (let lt = c.2 in omega (arith, lt)) char)
one_space bytes at m n (mark start char) (line b) = absurd (no_mark bytes at 46 b.opens.0 (omega arith) char)
one_space bytes at m n (mark start char) (general b) = absurd (no_mark bytes at 46 b.opens.0 (omega arith) char)
one_space bytes at m n (mark start char) (mark start2 char2) = refl

-- one first newline
pub one_newline : (bytes : List ℕ) (from to m n : ℕ) → IsFirstNewline bytes from to m → IsFirstNewline bytes from to n → m ≡ n
one_newline bytes from to m n a b = ⊎_elim
    (λ (e : m ≡ n). e)
    (λ apart. ⊎_elim
    (λ (lt : m < n). absurd (b.first m a.behind lt a.newline))
    (λ (gt : n < m). absurd (a.first n b.behind gt b.newline))
    apart)
    (cases_order m n)

-- space lies within the text, and has a byte
pub space_lies : (bytes : List ℕ) (at to : ℕ) → Space bytes at to → Lies bytes at to
space_lies bytes at to (white b) = blank_lies bytes at b
space_lies bytes at to (line c) =
    let past = run_from c.inside in
    record { space = line c; behind = omega (arith, past); within = run_within (opens_within bytes at c.opens) c.inside }
space_lies bytes at to (general c) =
    let past = run_from c.inside in
    let close = closes_within bytes c.close c.closes in
    let end = c.ends in
    record { space = general c; behind = omega (arith, past, end); within = omega (arith, close, end) }
space_lies bytes at to (mark start char) = mark_lies bytes at to start char refl
