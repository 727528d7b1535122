-- How many brackets are open behind tokens that are read.
use Rattle.std.proofs.Common.{◌≡◌, ℕ, Bool, true, false, List, [], ◌∷◌, ◌++◌, refl, ap, sym, ◌∙◌, subst, cond, Option, None, Some}
use Rattle.std.proofs.lemmas.Bool.{eqb-true}
use Rattle.std.specs.List.{slice_get}
use Rattle.go_tree.specs.declared.token.Token.{Token}
use Rattle.go_tree.specs.declared.token.TokenKind.{TokenKind}
use Rattle.go_tree.specs.declared.token.TokenKind.TheVariants.{Ident}
use Rattle.go_tree.specs.Grammar.RightSide.{RightSide, Do, Call, Seq, Or, Many, When, Act, Pass, Open, Reopen, Adopt, CheckType, Close}
use Rattle.go_tree.specs.Grammar.Tables.TokenKinds.{code, same_kind, all_kinds}
use Rattle.go_tree.specs.Grammar.Trees.Reading.{State, OpenNode, Reads, at_end, does, calls, nothing, in_turn, left, right, done, again, chosen, passed_by, acted, passed, ends_in_type}
use Rattle.go_tree.specs.Grammar.Tables.Brackets.{Standing, behind_token, then_through, through, through_all}
use Rattle.go_tree.proofs.BracketLemmas.{through_parts, agreed_parts, same_through, through_act, through_pass}

-- how many brackets are open behind these tokens, where l are before them; none where one closes that is
-- not open
abbrev pub behind_tokens : List Token → ℕ → Option ℕ
behind_tokens [] l = Some l
behind_tokens (t ∷ ts) l = then_through (behind_tokens ts) (behind_token t.kind l)

then_some : (f : ℕ → Option ℕ) (o : Option ℕ) (k m : ℕ) → o ≡ Some k → f k ≡ Some m → then_through f o ≡ Some m
then_some f o k m q h = rw q h

pub tokens_parts : (xs ys : List Token) (l m : ℕ) → behind_tokens (xs ++ ys) l ≡ Some m → (k : ℕ) × (behind_tokens xs l ≡ Some k) × (behind_tokens ys k ≡ Some m)
tokens_parts [] ys l m h = (l, refl, h)
tokens_parts (x ∷ xs) ys l m h =
    let z = through_parts (behind_tokens (xs ++ ys)) (behind_token x.kind l) m h in
    let w = tokens_parts xs ys z.0 m z.2 in
    (w.0, then_some (behind_tokens xs) (behind_token x.kind l) z.0 w.0 z.1 w.1, w.2)

pub tokens_joined : (xs ys : List Token) (l k m : ℕ) → behind_tokens xs l ≡ Some k → behind_tokens ys k ≡ Some m → behind_tokens (xs ++ ys) l ≡ Some m
tokens_joined [] ys l k m h w = let q : l ≡ k = cc in subst (λ x. behind_tokens ys x ≡ Some m) (sym q) w
tokens_joined (x ∷ xs) ys l k m h w = let z = through_parts (behind_tokens xs) (behind_token x.kind l) k h in then_some (behind_tokens (xs ++ ys)) (behind_token x.kind l) z.0 m z.1 (tokens_joined xs ys z.0 k m z.2 w)

-- ---- kinds with the same number

listed : (k : TokenKind) → slice_get all_kinds (code k) ≡ Some k
listed Ident = refl
listed _ = refl

pub same_kinds : (j k : TokenKind) → same_kind j k ≡ true → j ≡ k
same_kinds j k h = one j k (sym (listed j) ∙ (ap (slice_get all_kinds) (eqb-true (code j) (code k) h) ∙ listed k))
  where
    one : (x y : TokenKind) → Some x ≡ Some y → x ≡ y
    one x y q = cc

-- ---- an act

pub passed_token : (k : TokenKind) (ts : List Token) (fs : List OpenNode) (m : State) → passed k ts fs ≡ Some m → (t : Token) × (ts ≡ t ∷ m.rest) × (k ≡ t.kind)
passed_token k [] fs m h = cc
passed_token k (t ∷ ts) fs m h = go (same_kind k t.kind) refl h
  where
    go : (c : Bool) → same_kind k t.kind ≡ c → cond c (Some (record { last = t.end; rest = ts; open_nodes = fs })) None ≡ Some m → (u : Token) × (t ∷ ts ≡ u ∷ m.rest) × (k ≡ u.kind)
    go true q h =
        let y : record { last = t.end; rest = ts; open_nodes = fs } ≡ m = cc in
        (t, ap (λ (x : State). t ∷ x.rest) y, same_kinds k t.kind q)
    go false q h = cc

kept_checked : (c : Bool) (s m : State) → cond c (Some s) None ≡ Some m → s.rest ≡ m.rest
kept_checked true s m h = cc
kept_checked false s m h = cc

module _ (N : Type 0) (P : N → RightSide N) (bytes : List ℕ) (C : N → Standing) (called : (n : N) (gs : List (RightSide N)) (l m : ℕ) → through_all C (Call n ∷ gs) l ≡ Some m → through_all C (P n ∷ gs) l ≡ Some m) where
  -- of the tokens from the one state to the other, as many brackets are open behind as the right sides say
  pub record Nested (from to : List Token) (l m : ℕ) : Type 0 where
    pub tokens : List Token
    pub are : from ≡ tokens ++ to
    pub behind : behind_tokens tokens l ≡ Some m

  no_token : (from to : List Token) (l m : ℕ) → from ≡ to → l ≡ m → Nested from to l m
  no_token from to l m q e = record { tokens = []; are = q; behind = ap (λ x. Some x) e }

  next_token : (t : Token) (from more to : List Token) (l k m : ℕ) → from ≡ t ∷ more → behind_token t.kind l ≡ Some k → Nested more to k m → Nested from to l m
  next_token t from more to l k m q h n = record { tokens = t ∷ n.tokens; are = q ∙ ap (λ x. t ∷ x) n.are; behind = then_some (behind_tokens n.tokens) (behind_token t.kind l) k m h n.behind }

  moved : (s k : State) (to : List Token) (l m : ℕ) → s.rest ≡ k.rest → Nested k.rest to l m → Nested s.rest to l m
  moved s k to l m q n = subst (λ x. Nested x to l m) (sym q) n

  act_nested : (a : Act) (gs : List (RightSide N)) (s k : State) (to : List Token) (l m : ℕ) → acted bytes a s ≡ Some k → through_all C (Do a ∷ gs) l ≡ Some m → ((x y : ℕ) → through_all C gs x ≡ Some y → Nested k.rest to x y) → Nested s.rest to l m
  act_nested (Pass j) gs s k to l m q h more =
      let t = passed_token j s.rest s.open_nodes k q in
      let z = through_pass N C j gs l m h in
      next_token t.0 s.rest k.rest to l z.0 m t.1 (subst (λ x. behind_token x l ≡ Some z.0) t.2 z.1) (more z.0 m z.2)
  act_nested Open gs s k to l m q h more = moved s k to l m (cc) (more l m (through_act N C Open gs l m refl h))
  act_nested Reopen gs s k to l m q h more = moved s k to l m (cc) (more l m (through_act N C Reopen gs l m refl h))
  act_nested Adopt gs s k to l m q h more = moved s k to l m (cc) (more l m (through_act N C Adopt gs l m refl h))
  act_nested CheckType gs s k to l m q h more = moved s k to l m (kept_checked (ends_in_type s.open_nodes) s k q) (more l m (through_act N C CheckType gs l m refl h))
  act_nested (Close x) gs s k to l m q h more = moved s k to l m (cc) (more l m (through_act N C (Close x) gs l m refl h))

  pub nested : {gs : List (RightSide N)} {s e : State} → Reads N P bytes gs s e → (l m : ℕ) → through_all C gs l ≡ Some m → Nested s.rest e.rest l m
  nested (at_end {s = s}) l m h = no_token s.rest s.rest l m refl cc
  nested (does {a = a} {gs = gs} {s = s} {m = k} {e = e} q d) l m h = act_nested a gs s k e.rest l m q h (λ x y z. nested d x y z)
  nested (calls {n = n} {gs = gs} d) l m h = nested d l m (called n gs l m h)
  nested (nothing d) l m h = nested d l m h
  nested (in_turn {g = g} {h = f} {gs = gs} d) l m h =
      let z = through_parts (through_all C gs) (through C (Seq g f) l) m h in
      let w = through_parts (through C f) (through C g l) z.0 z.1 in
      nested d l m (same_through N C g (f ∷ gs) l w.0 m w.1 (same_through N C f gs w.0 z.0 m w.2 z.2))
  nested (left {g = g} {h = f} {gs = gs} d) l m h =
      let z = through_parts (through_all C gs) (through C (Or g f) l) m h in
      let w = agreed_parts (through C g l) (through C f l) z.0 z.1 in
      nested d l m (same_through N C g gs l z.0 m w.0 z.2)
  nested (right {g = g} {h = f} {gs = gs} d) l m h =
      let z = through_parts (through_all C gs) (through C (Or g f) l) m h in
      let w = agreed_parts (through C g l) (through C f l) z.0 z.1 in
      nested d l m (same_through N C f gs l z.0 m w.1 z.2)
  nested (chosen {a = a} {g = g} {h = f} {gs = gs} p d) l m h =
      let z = through_parts (through_all C gs) (through C (When a g f) l) m h in
      let w = agreed_parts (through C g l) (through C f l) z.0 z.1 in
      nested d l m (same_through N C g gs l z.0 m w.0 z.2)
  nested (passed_by {a = a} {g = g} {h = f} {gs = gs} p d) l m h =
      let z = through_parts (through_all C gs) (through C (When a g f) l) m h in
      let w = agreed_parts (through C g l) (through C f l) z.0 z.1 in
      nested d l m (same_through N C f gs l z.0 m w.1 z.2)
  nested (done {g = g} {gs = gs} d) l m h =
      let z = through_parts (through_all C gs) (through C (Many g) l) m h in
      let w = agreed_parts (Some l) (through C g l) z.0 z.1 in
      let q : z.0 ≡ l = cc in
      nested d l m (subst (λ x. through_all C gs x ≡ Some m) q z.2)
  nested (again {g = g} {gs = gs} d) l m h =
      let z = through_parts (through_all C gs) (through C (Many g) l) m h in
      let w = agreed_parts (Some l) (through C g l) z.0 z.1 in
      let q : z.0 ≡ l = cc in
      nested d l m (same_through N C g (Many g ∷ gs) l z.0 m w.1 (subst (λ x. through_all C (Many g ∷ gs) x ≡ Some m) (sym q) h))
