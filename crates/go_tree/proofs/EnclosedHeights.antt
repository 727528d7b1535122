-- Heights inside braces: what stands before the open brace adds its own count, and plays no other part.
use Rattle.std.proofs.Common.{◌≡◌, ℕ, zero, suc, ◌+◌, ◌<◌, Bool, true, false, List, [], ◌∷◌, ◌++◌, length, Option, Some, None, refl, ap, sym, subst, ◌∙◌, ◌⊎◌, inl, inr, arith, length-append}
use Rattle.std.specs.Prelude.{if◌then◌else◌, fold}
use Rattle.std.proofs.lemmas.List.Sums.{fold-append}
use Rattle.go_tree.specs.declared.token.Token.{Token}
use Rattle.go_tree.specs.declared.token.TokenKind.{TokenKind}
use Rattle.go_tree.specs.declared.token.TokenKind.TheVariants.{KwElse, LeftParen, LeftBracket, LeftBrace, RightParen, RightBracket, RightBrace, Comma, Semicolon, InsertedSemicolon, Colon}
use Rattle.go_tree.specs.declared.token_height.Role.{Role}
use Rattle.go_tree.specs.declared.token_height.Role.TheVariants.{Opens, Closes, Separates, CountsOn, Counts}
use Rattle.go_tree.specs.Height.{Mark, Counted, counted, counted_at, height_of, Bracket, Lasting, Passing, behind_close, behind_separator, marks_behind, behind_label, role_of}
use Rattle.go_tree.specs.Grammar.Tables.Brackets.{closed, behind_token}
use Rattle.go_tree.proofs.BracketLemmas.{through_parts}
use Rattle.go_tree.proofs.NestingLemmas.{behind_tokens, tokens_parts}

-- how many of these marks are open brackets
abbrev pub open_marks : List Mark → ℕ
open_marks [] = 0
open_marks (Bracket ∷ ms) = suc (open_marks ms)
open_marks (Lasting ∷ ms) = open_marks ms
open_marks (Passing ∷ ms) = open_marks ms

-- ---- one token inside a bracket

close_above : (inner outer : List Mark) (l : ℕ) → open_marks inner ≡ suc l → behind_close (inner ++ Bracket ∷ outer) ≡ behind_close inner ++ Bracket ∷ outer
close_above [] outer l h = absurd (omega arith)
close_above (Bracket ∷ ms) outer l h = refl
close_above (Lasting ∷ ms) outer l h = close_above ms outer l h
close_above (Passing ∷ ms) outer l h = close_above ms outer l h

close_marks : (inner : List Mark) (l : ℕ) → open_marks inner ≡ suc l → open_marks (behind_close inner) ≡ l
close_marks [] l h = absurd (omega arith)
close_marks (Bracket ∷ ms) l h = omega arith
close_marks (Lasting ∷ ms) l h = close_marks ms l h
close_marks (Passing ∷ ms) l h = close_marks ms l h

-- the bracket itself is closed
close_last : (inner outer : List Mark) → open_marks inner ≡ 0 → behind_close (inner ++ Bracket ∷ outer) ≡ Passing ∷ outer
close_last [] outer h = refl
close_last (Bracket ∷ ms) outer h = absurd (omega arith)
close_last (Lasting ∷ ms) outer h = close_last ms outer h
close_last (Passing ∷ ms) outer h = close_last ms outer h

separator_above : (inner outer : List Mark) → behind_separator (inner ++ Bracket ∷ outer) ≡ behind_separator inner ++ Bracket ∷ outer
separator_above [] outer = refl
separator_above (Bracket ∷ ms) outer = refl
separator_above (Lasting ∷ ms) outer = ap (λ xs. Lasting ∷ xs) (separator_above ms outer)
separator_above (Passing ∷ ms) outer = separator_above ms outer

separator_marks : (inner : List Mark) → open_marks (behind_separator inner) ≡ open_marks inner
separator_marks [] = refl
separator_marks (Bracket ∷ ms) = refl
separator_marks (Lasting ∷ ms) = separator_marks ms
separator_marks (Passing ∷ ms) = separator_marks ms

abbrev behind_role : Role → ℕ → Option ℕ
behind_role Opens l = Some (suc l)
behind_role Closes l = closed l
behind_role Separates l = Some l
behind_role CountsOn l = Some l
behind_role Counts l = Some l

role_token : (k : TokenKind) (last before : Option TokenKind) (l : ℕ) → behind_role (role_of k last before) l ≡ behind_token k l
role_token LeftParen last before l = refl
role_token LeftBracket last before l = refl
role_token LeftBrace last before l = refl
role_token RightParen last before l = refl
role_token RightBracket last before l = refl
role_token RightBrace last before l = refl
role_token Comma last before l = refl
role_token Semicolon last before l = refl
role_token InsertedSemicolon last before l = refl
role_token KwElse last before l = refl
role_token Colon last before l = go (behind_label last before)
  where
    go : (b : Bool) → behind_role (if b then CountsOn else Counts) l ≡ Some l
    go true = refl
    go false = refl
role_token _ last before l = refl

closed_some : (l m : ℕ) → closed l ≡ Some m → l ≡ suc m
closed_some zero m h = cc
closed_some (suc l) m h = let q : l ≡ m = cc in ap (λ x. suc x) q

role_above : (r : Role) (inner outer : List Mark) (m : ℕ) → behind_role r (open_marks inner) ≡ Some m → marks_behind (inner ++ Bracket ∷ outer) r ≡ marks_behind inner r ++ Bracket ∷ outer
role_above Opens inner outer m h = refl
role_above Closes inner outer m h = ap (λ xs. Passing ∷ xs) (close_above inner outer m (closed_some (open_marks inner) m h))
role_above Separates inner outer m h = separator_above inner outer
role_above CountsOn inner outer m h = refl
role_above Counts inner outer m h = refl

role_marks : (r : Role) (inner : List Mark) (m : ℕ) → behind_role r (open_marks inner) ≡ Some m → open_marks (marks_behind inner r) ≡ m
role_marks Opens inner m h = cc
role_marks Closes inner m h = close_marks inner m (closed_some (open_marks inner) m h)
role_marks Separates inner m h = separator_marks inner ∙ (let q : open_marks inner ≡ m = cc in q)
role_marks CountsOn inner m h = cc
role_marks Counts inner m h = cc

-- ---- two counts inside a bracket

-- the same tokens count behind the bracket, and others before it
pub record Alike (c d : Counted) (inner outer other : List Mark) : Type 0 where
  pub marks : c.marks ≡ inner ++ Bracket ∷ outer
  pub others : d.marks ≡ inner ++ Bracket ∷ other
  pub last : c.last ≡ d.last
  pub roles : (k : TokenKind) → role_of k c.last c.before ≡ role_of k d.last d.before

alike_step : (t : Token) (c d : Counted) (inner outer other : List Mark) (m : ℕ) → Alike c d inner outer other → behind_token t.kind (open_marks inner) ≡ Some m → (more : List Mark) × Alike (counted_at c t) (counted_at d t) more outer other × (open_marks more ≡ m)
alike_step t c d inner outer other m a h =
    let r = role_of t.kind c.last c.before in
    let b : behind_role r (open_marks inner) ≡ Some m = role_token t.kind c.last c.before (open_marks inner) ∙ h in (
      marks_behind inner r,
      record {
        marks = ap (λ ms. marks_behind ms r) a.marks ∙ role_above r inner outer m b;
        others = ap (λ x. marks_behind d.marks x) (sym (a.roles t.kind)) ∙ (ap (λ ms. marks_behind ms r) a.others ∙ role_above r inner other m b);
        last = refl;
        roles = λ k. ap (λ x. role_of k (Some t.kind) x) a.last;
      },
      role_marks r inner m b,
    )

pub alike : (ts : List Token) (c d : Counted) (inner outer other : List Mark) (m : ℕ) → Alike c d inner outer other → behind_tokens ts (open_marks inner) ≡ Some m → (more : List Mark) × Alike (fold counted_at c ts) (fold counted_at d ts) more outer other × (open_marks more ≡ m)
alike [] c d inner outer other m a h = (inner, a, cc)
alike (t ∷ ts) c d inner outer other m a h =
    let z = through_parts (behind_tokens ts) (behind_token t.kind (open_marks inner)) m h in
    let s = alike_step t c d inner outer other z.0 a z.1 in
    alike ts (counted_at c t) (counted_at d t) s.0 outer other m s.1 (subst (λ x. behind_tokens ts x ≡ Some m) (sym s.2) z.2)

-- ---- braces

-- an open brace, tokens whose brackets are closed among them, and a closing brace
pub record InBraces (tokens : List Token) : Type 0 where
  pub opening : Token
  pub inside : List Token
  pub closing : Token
  pub are : tokens ≡ opening ∷ (inside ++ closing ∷ [])
  pub opens : opening.kind ≡ LeftBrace
  pub closes : closing.kind ≡ RightBrace
  pub level : behind_tokens inside 0 ≡ Some 0

brace_roles : (k : TokenKind) (x y : Option TokenKind) → role_of k (Some LeftBrace) x ≡ role_of k (Some LeftBrace) y
brace_roles Colon x y = refl
brace_roles _ x y = refl

opened_alike : (c d : Counted) (t : Token) → t.kind ≡ LeftBrace → Alike (counted_at c t) (counted_at d t) [] c.marks d.marks
opened_alike c d t h = record {
  marks = rw h refl;
  others = rw h refl;
  last = refl;
  roles = λ k. rw h (brace_roles k c.last d.last);
}

-- inside, behind a front of the tokens
inside_alike : (c d : Counted) (t : Token) (front : List Token) (m : ℕ) → t.kind ≡ LeftBrace → behind_tokens front 0 ≡ Some m → (more : List Mark) × Alike (fold counted_at c (t ∷ front)) (fold counted_at d (t ∷ front)) more c.marks d.marks × (open_marks more ≡ m)
inside_alike c d t front m h l = alike front (counted_at c t) (counted_at d t) [] c.marks d.marks m (opened_alike c d t h) l

closed_marks : (c : Counted) (t : Token) (inner outer : List Mark) → t.kind ≡ RightBrace → c.marks ≡ inner ++ Bracket ∷ outer → open_marks inner ≡ 0 → (counted_at c t).marks ≡ Passing ∷ (Passing ∷ outer)
closed_marks c t inner outer h q none = rw h (ap (λ ms. Passing ∷ behind_close ms) q ∙ ap (λ ms. Passing ∷ ms) (close_last inner outer none))

whole_marks : (c : Counted) (bs : List Token) (b : InBraces bs) → (fold counted_at c bs).marks ≡ Passing ∷ (Passing ∷ c.marks)
whole_marks c bs b =
    let i = inside_alike c c b.opening b.inside 0 b.opens b.level in
    ap (λ xs. (fold counted_at c xs).marks) b.are
    ∙ (ap (λ (x : Counted). x.marks) (fold-append counted_at (counted_at c b.opening) b.inside (b.closing ∷ []))
    ∙ closed_marks (fold counted_at (counted_at c b.opening) b.inside) b.closing i.0 c.marks b.closes i.1.marks i.2)

whole_last : (c : Counted) (bs : List Token) (b : InBraces bs) → (fold counted_at c bs).last ≡ Some RightBrace
whole_last c bs b =
    ap (λ xs. (fold counted_at c xs).last) b.are
    ∙ (ap (λ (x : Counted). x.last) (fold-append counted_at (counted_at c b.opening) b.inside (b.closing ∷ []))
    ∙ ap (λ k. Some k) b.closes)

-- behind the closing brace the two braces count, and of what stands between them nothing
pub braces_counted : (ts bs : List Token) → InBraces bs → ((counted (ts ++ bs)).marks ≡ Passing ∷ (Passing ∷ (counted ts).marks)) × ((counted (ts ++ bs)).last ≡ Some RightBrace)
braces_counted ts bs b =
    let start : Counted = record { marks = []; last = None; before = None } in
    let q = fold-append counted_at start ts bs in
    (ap (λ (x : Counted). x.marks) q ∙ whole_marks (counted ts) bs b, ap (λ (x : Counted). x.last) q ∙ whole_last (counted ts) bs b)

-- ---- heights at the tokens of braces

front_of : (xs : List Token) (x : Token) (fs rest : List Token) → xs ++ x ∷ [] ≡ fs ++ rest → ((more : List Token) × (xs ≡ fs ++ more)) ⊎ (fs ≡ xs ++ x ∷ [])
front_of xs x [] rest h = inl (xs, refl)
front_of [] x (f ∷ []) rest h = inr cc
front_of [] x (f ∷ (g ∷ fs)) rest h = cc
front_of (y ∷ ys) x (f ∷ fs) rest h =
    let first : y ≡ f = cc in
    let others : ys ++ x ∷ [] ≡ fs ++ rest = cc in
    one_more first (front_of ys x fs rest others)
  where
    one_more : y ≡ f → ((more : List Token) × (ys ≡ fs ++ more)) ⊎ (fs ≡ ys ++ x ∷ []) → ((more : List Token) × (y ∷ ys ≡ (f ∷ fs) ++ more)) ⊎ (f ∷ fs ≡ (y ∷ ys) ++ x ∷ [])
    one_more q (inl w) = inl (w.0, rw (q, w.1) refl)
    one_more q (inr w) = inr (rw (q, w) refl)

alike_heights : (c d : Counted) (inner outer : List Mark) → Alike c d inner outer [] → length c.marks ≡ length outer + length d.marks
alike_heights c d inner outer a =
    let x : length c.marks ≡ length inner + suc (length outer) = ap length a.marks ∙ length-append inner (Bracket ∷ outer) in
    let y : length d.marks ≡ length inner + 1 = ap length a.others ∙ length-append inner (Bracket ∷ []) in
    omega arith

part_heights : (ts : List Token) (f : Token) (fs more : List Token) → f.kind ≡ LeftBrace → behind_tokens (fs ++ more) 0 ≡ Some 0 → height_of (ts ++ f ∷ fs) ≡ height_of ts + height_of (f ∷ fs)
part_heights ts f fs more h level =
    let start : Counted = record { marks = []; last = None; before = None } in
    let z = tokens_parts fs more 0 0 level in
    let i = inside_alike (counted ts) start f fs z.0 h z.1 in
    ap (λ (x : Counted). length x.marks) (fold-append counted_at start ts (f ∷ fs)) ∙ alike_heights (fold counted_at (counted ts) (f ∷ fs)) (fold counted_at start (f ∷ fs)) i.0 (counted ts).marks i.1

whole_heights : (ts bs : List Token) → InBraces bs → height_of (ts ++ bs) ≡ height_of ts + height_of bs
whole_heights ts bs b =
    let x : height_of (ts ++ bs) ≡ suc (suc (height_of ts)) = ap length (braces_counted ts bs b).0 in
    let y : height_of bs ≡ 2 = ap length (braces_counted [] bs b).0 in
    omega arith

-- the height at a token of braces is its height among these tokens alone, and the height before them
pub braces_heights : (ts bs front rest : List Token) → InBraces bs → bs ≡ front ++ rest → 0 < length front → height_of (ts ++ front) ≡ height_of ts + height_of front
braces_heights ts bs [] rest b q some = absurd (omega arith)
braces_heights ts bs (f ∷ fs) rest b q some =
    let all : b.opening ∷ (b.inside ++ b.closing ∷ []) ≡ f ∷ (fs ++ rest) = sym b.are ∙ q in
    let first : b.opening ≡ f = cc in
    let others : b.inside ++ b.closing ∷ [] ≡ fs ++ rest = cc in
    go first (front_of b.inside b.closing fs rest others)
  where
    go : b.opening ≡ f → ((more : List Token) × (b.inside ≡ fs ++ more)) ⊎ (fs ≡ b.inside ++ b.closing ∷ []) → height_of (ts ++ f ∷ fs) ≡ height_of ts + height_of (f ∷ fs)
    go first (inl w) = part_heights ts f fs w.0 (ap (λ (t : Token). t.kind) (sym first) ∙ b.opens) (subst (λ x. behind_tokens x 0 ≡ Some 0) w.1 b.level)
    go first (inr w) =
        let same : bs ≡ f ∷ fs = b.are ∙ (ap (λ x. x ∷ (b.inside ++ b.closing ∷ [])) first ∙ ap (λ xs. f ∷ xs) (sym w)) in
        subst (λ xs. height_of (ts ++ xs) ≡ height_of ts + height_of xs) same (whole_heights ts bs b)
