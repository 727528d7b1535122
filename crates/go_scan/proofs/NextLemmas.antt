-- Lemmas on `IsNext`: a text has at most one next token; where it lies, what it is, and that it
-- leaves less of the text.
use Rattle.std.proofs.Common.{◌≡◌, ◌≢◌, ℕ, ◌<◌, ◌≤◌, Bool, true, false, cond, List, Option, Some, length, refl, sym, ◌∙◌, arith}
use Rattle.go_tree.specs.declared.token.Token.{Token}
use Rattle.go_tree.specs.declared.token.TokenKind.{TokenKind}
use Rattle.go_tree.specs.declared.token.TokenKind.TheVariants.{InsertedSemicolon, End}
use Rattle.go_tree.specs.Lexical.Semicolons.{inserts_after}
use Rattle.go_tree.specs.Lexical.Tokens.{IsToken, IsLongest}
use Rattle.go_tree.specs.Lexical.Scan.{Passed, Gap, none, more, IsPlace, IsFirst, ends, newline, written, IsFirstNewline, IsNext}
use Rattle.go_scan.specs.Weight.{scan_weight}
use Rattle.go_tree.proofs.SpaceLemmas.{space_lies, one_space, one_newline}
use Rattle.go_scan.proofs.KindLemmas.{one_longest}
use Rattle.go_scan.proofs.MoveLemmas.{token_moves}

-- the same gap, by what is passed over first
data GapOn (stops : Bool) (bytes : List ℕ) : ℕ → ℕ → Type 0 where
  stop : {at : ℕ} → GapOn stops bytes at at
  step : {at m to : ℕ} → Passed stops bytes at m → GapOn stops bytes m to → GapOn stops bytes at to

behind_gap : {stops : Bool} {bytes : List ℕ} {from at to : ℕ} → GapOn stops bytes from at → Passed stops bytes at to → GapOn stops bytes from to
behind_gap stop p = step p stop
behind_gap (step q rest) p = step q (behind_gap rest p)

gap_on : {stops : Bool} {bytes : List ℕ} {from to : ℕ} → Gap stops bytes from to → GapOn stops bytes from to
gap_on none = stop
gap_on (more g p) = behind_gap (gap_on g) p

one_gap : {stops : Bool} {bytes : List ℕ} {from m n : ℕ} → GapOn stops bytes from m → ((to : ℕ) → Passed stops bytes m to → ⊥) → GapOn stops bytes from n → ((to : ℕ) → Passed stops bytes n to → ⊥) → m ≡ n
one_gap stop e stop f = refl
one_gap stop e (step q h) f = absurd (e _ q)
one_gap (step p g) e stop f = absurd (f _ p)
one_gap {bytes = bytes} {from = from} {n = n} (step {m = a} p g) e (step {m = b} q h) f =
    let same : b ≡ a = one_space bytes from b a q.0 p.0 in
    one_gap g e (rw same at h) f

-- there is one place for the next token
pub one_place : (bytes : List ℕ) (at : ℕ) (last : Option TokenKind) (m n : ℕ) → IsPlace bytes at last m → IsPlace bytes at last n → m ≡ n
one_place bytes at last m n a b = one_gap (gap_on a.gap) a.whole (gap_on b.gap) b.whole

gap_from : {stops : Bool} {bytes : List ℕ} {from to : ℕ} → Gap stops bytes from to → from ≤ to
gap_from none = omega arith
gap_from (more g p) = let rest = gap_from g in let l = (space_lies _ _ _ p.0).behind in omega (arith, rest, l)

gap_within : {stops : Bool} {bytes : List ℕ} {from to : ℕ} → from ≤ length bytes → Gap stops bytes from to → to ≤ length bytes
gap_within le none = le
gap_within le (more g p) = (space_lies _ _ _ p.0).within

pub place_lies : (bytes : List ℕ) (at : ℕ) (last : Option TokenKind) (place : ℕ) → at ≤ length bytes → IsPlace bytes at last place → (at ≤ place) × (place ≤ length bytes)
place_lies bytes at last place le h = (gap_from h.gap, gap_within le h.gap)

abbrev token_at : TokenKind → ℕ → ℕ → Token
token_at kind start end = record { kind = kind; start = start; end = end }

same_token : (j k : TokenKind) (m n from to : ℕ) → j ≡ k → m ≡ n → from ≡ to → token_at j m from ≡ token_at k n to
same_token j k m n from to kind start end = cc

longest_moves : (bytes : List ℕ) (kind : TokenKind) (from to : ℕ) → IsLongest bytes kind from to → (from < to) × (to ≤ length bytes)
longest_moves bytes kind from to h = (token_moves bytes kind from to h.within h.token, h.within)

-- what stands first is one
one_first : (bytes : List ℕ) (last : Option TokenKind) (place : ℕ) (t u : Token) → IsFirst bytes last place t → IsFirst bytes last place u → t ≡ u
one_first bytes last place t u (ends a k s e) (ends b l r f) = same_token t.kind u.kind t.start u.start t.end u.end (k ∙ sym l) (s ∙ sym r) (e ∙ sym f)
one_first bytes last place t u (ends a k s e) (newline l sp n) = let w = space_lies bytes place u.end sp in let x = w.behind in let y = w.within in absurd (omega (arith, a, x, y))
one_first bytes last place t u (ends a k s e) (written no_space start long) = let w = longest_moves bytes u.kind place u.end long in absurd (omega (arith, a, w.0, w.1))
one_first bytes last place t u (newline l sp n) (ends a k s e) = let w = space_lies bytes place t.end sp in let x = w.behind in let y = w.within in absurd (omega (arith, a, x, y))
one_first bytes last place t u (newline k sp n) (newline l sq o) =
    let end : u.end ≡ t.end = one_space bytes place u.end t.end sq sp in
    let other : IsFirstNewline bytes place t.end u.start = rw end at o in
    same_token t.kind u.kind t.start u.start t.end u.end (k ∙ sym l) (one_newline bytes place t.end t.start u.start n other) (sym end)
one_first bytes last place t u (newline k sp n) (written no_space start long) = absurd (no_space t.end sp)
one_first bytes last place t u (written no_space start long) (ends a k s e) = let w = longest_moves bytes t.kind place t.end long in absurd (omega (arith, a, w.0, w.1))
one_first bytes last place t u (written no_space start long) (newline k sp n) = absurd (no_space u.end sp)
one_first bytes last place t u (written no_space start long) (written no_space2 start2 long2) =
    let one = one_longest bytes t.kind u.kind place t.end u.end long long2 in
    same_token t.kind u.kind t.start u.start t.end u.end one.0 (start ∙ sym start2) one.1

-- a text has at most one next token
pub one_next : (bytes : List ℕ) (at : ℕ) (last : Option TokenKind) (t u : Token) → IsNext bytes at last t → IsNext bytes at last u → t ≡ u
one_next bytes at last t u a b =
    let place : b.place ≡ a.place = one_place bytes at last b.place a.place b.is_place a.is_place in
    let other : IsFirst bytes last a.place u = rw place at b.first in
    one_first bytes last a.place t u a.first other

-- where what stands first lies
first_lies : (bytes : List ℕ) (last : Option TokenKind) (place : ℕ) (t : Token) → place ≤ length bytes → IsFirst bytes last place t → (place ≤ t.start) × (t.start ≤ t.end) × (t.end ≤ length bytes)
first_lies bytes last place t le (ends a k s e) = (omega (arith, s), omega (arith, s, e), omega (arith, a, e))
first_lies bytes last place t le (newline k sp n) = let w = (space_lies bytes place t.end sp).within in let x = n.behind in let y = n.before in (x, omega (arith, y), w)
first_lies bytes last place t le (written no_space start long) = let w = longest_moves bytes t.kind place t.end long in (omega (arith, start), omega (arith, start, w.0), w.1)

-- the next token lies behind `at` and within the text
pub next_within : (bytes : List ℕ) (at : ℕ) (last : Option TokenKind) (t : Token) → at ≤ length bytes → IsNext bytes at last t → (at ≤ t.start) × (t.start ≤ t.end) × (t.end ≤ length bytes)
next_within bytes at last t le h =
    let p = place_lies bytes at last h.place le h.is_place in
    let f = first_lies bytes last h.place t p.1 h.first in
    (omega (arith, p.0, f.0), f.1, f.2)

-- a token that is not inserted, and not the end, stands where it says
pub next_token : (bytes : List ℕ) (at : ℕ) (last : Option TokenKind) (t : Token) → IsNext bytes at last t → t.kind ≢ InsertedSemicolon → t.kind ≢ End → IsToken bytes t.kind t.start t.end
next_token bytes at last t h inserted end = first_token h.place h.first
  where
    inserts : (b : Bool) → t.kind ≡ cond b InsertedSemicolon End → ⊥
    inserts true e = inserted e
    inserts false e = end e

    first_token : (place : ℕ) → IsFirst bytes last place t → IsToken bytes t.kind t.start t.end
    first_token place (ends a k s e) = absurd (inserts (inserts_after last) k)
    first_token place (newline k sp n) = absurd (inserted k)
    first_token place (written no_space start long) = rw start long.token

at_most_one : (b : Bool) → cond b 1 0 ≤ 1
at_most_one true = omega arith
at_most_one false = omega arith

-- each token but the end leaves less
pub next_progress : (bytes : List ℕ) (at : ℕ) (last : Option TokenKind) (t : Token) → at ≤ length bytes → IsNext bytes at last t → t.kind ≢ End → scan_weight (length bytes) t.end (Some t.kind) < scan_weight (length bytes) at last
next_progress bytes at last t le h more_left = first_progress h.place (place_lies bytes at last h.place le h.is_place) h.first
  where
    one : cond (inserts_after (Some t.kind)) 1 0 ≤ 1
    one = at_most_one (inserts_after (Some t.kind))

    at_end : (b : Bool) → t.kind ≡ cond b InsertedSemicolon End → (b ≡ true) × (t.kind ≡ InsertedSemicolon)
    at_end true e = (refl, e)
    at_end false e = absurd (more_left e)

    first_progress : (place : ℕ) → (at ≤ place) × (place ≤ length bytes) → IsFirst bytes last place t → scan_weight (length bytes) t.end (Some t.kind) < scan_weight (length bytes) at last
    first_progress place p (ends a k s e) = let i = at_end (inserts_after last) k in rw (i.0, i.1) (omega (arith, a, e, p.0, p.1))
    first_progress place p (newline k sp n) = let w = space_lies bytes place t.end sp in let x = w.behind in let y = w.within in omega (arith, one, p.0, p.1, x, y)
    first_progress place p (written no_space start long) = let w = longest_moves bytes t.kind place t.end long in omega (arith, one, p.0, p.1, w.0, w.1)
