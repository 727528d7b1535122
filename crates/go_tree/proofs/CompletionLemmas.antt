-- What is still to be read can be completed.
use Rattle.std.proofs.Common.{◌≡◌, ℕ, zero, suc, ◌<◌, Bool, true, false, List, [], ◌∷◌, ◌++◌, refl, Option, None, Some, cond, nat_lt, ◌==◌, ◌&&◌, eq-eqb, subst, arith, sym, ap, ◌∙◌, append_assoc}
use Rattle.std.specs.List.{list_any}
use Rattle.std.proofs.lemmas.Bool.{eqb-true, and_parts}
use Rattle.std.proofs.lemmas.Bool.Decides.{nat_tests}
use Rattle.go_tree.specs.declared.token.Token.{Token}
use Rattle.go_tree.specs.declared.token.TokenKind.{TokenKind}
use Rattle.go_tree.specs.Grammar.Tables.TokenKinds.{same_kind, is_in, code}
use Rattle.go_tree.specs.Grammar.RightSide.{RightSide, Do, Call, Nothing, Seq, Or, Many, When, Act, Pass, Open, Reopen, Adopt, CheckType, Close, Ahead, OneOf, Both}
use Rattle.go_tree.specs.Grammar.Trees.Reading.{State, OpenNode, Reads, at_end, does, calls, nothing, in_turn, left, right, done, chosen, looks, acted, reopen, close_last, adopt, next_start}
use Rattle.go_tree.specs.Grammar.Tables.Prediction.{Tables, expand, next_of, starts, begins}
use Rattle.go_tree.specs.Grammar.Tables.Completion.{Texts, join, either, begins_so, if_begun, spell, is_there, holds, Firm, Held, HaveTexts, text_or_none, completion, tokens_of}

-- the tokens are of these kinds, wherever they stand
abbrev pub AreOf : List TokenKind → List Token → Type 0
AreOf [] [] = Unit {0}
AreOf [] (t ∷ ts) = ⊥
AreOf (k ∷ ks) [] = ⊥
AreOf (k ∷ ks) (t ∷ ts) = (same_kind k t.kind ≡ true) × AreOf ks ts

same_self : (k : TokenKind) → same_kind k k ≡ true
same_self k = eq-eqb (code k) (code k) refl

pub same_code : (k l : TokenKind) → same_kind k l ≡ true → code k ≡ code l
same_code k l h = eqb-true (code k) (code l) h

-- two kinds that are the same as a third
pub same_both : (i k l : TokenKind) → same_kind i k ≡ true → same_kind i l ≡ true → same_kind k l ≡ true
same_both i k l h w = eq-eqb (code k) (code l) (sym (same_code i k h) ∙ same_code i l w)

is_in_same : (ks : List TokenKind) (k l : TokenKind) → is_in ks k ≡ true → same_kind k l ≡ true → is_in ks l ≡ true
is_in_same ks k l h w = subst (λ c. list_any (λ j. code j == c) ks ≡ true) (same_code k l w) h

same_after : (i k l : TokenKind) → same_kind i k ≡ true → same_kind k l ≡ true → same_kind i l ≡ true
same_after i k l h w = eq-eqb (code i) (code l) (same_code i k h ∙ same_code k l w)

pub tokens_are : (ks : List TokenKind) → AreOf ks (tokens_of ks)
tokens_are [] = tt
tokens_are (k ∷ ks) = (same_self k, tokens_are ks)

-- tokens of the kinds of two lists, in two parts
parted : (a b : List TokenKind) (ts : List Token) → AreOf (a ++ b) ts → (us vs : List Token) × (ts ≡ us ++ vs) × AreOf a us × AreOf b vs
parted [] b ts h = ([], ts, refl, tt, h)
parted (k ∷ a) b [] h = absurd h
parted (k ∷ a) b (t ∷ ts) h = let z = parted a b ts h.1 in (t ∷ z.0, z.1, ap (λ x. t ∷ x) z.2, (h.0, z.3), z.4)

below_lt : (a b : ℕ) → nat_lt a b ≡ true → a < b
below_lt a b h = grind (arith, nat_tests, h)

module _ (N : Type 0) (P : N → RightSide N) (bytes : List ℕ) (X : Texts N) where
  abbrev here : ℕ → List Token → List OpenNode → State
  here p ts fs = record { last = p; rest = ts; open_nodes = fs }

  -- g reads tokens of these kinds, whatever stands behind them
  abbrev Reaches : RightSide N → List TokenKind → Type 0
  Reaches g ks = (ts : List Token) → AreOf ks ts → (p : ℕ) (more : List Token) (fs : List OpenNode) → (q : ℕ) × (gs' : List OpenNode) × ((gs : List (RightSide N)) (e : State) → Reads N P bytes gs (here q more gs') e → Reads N P bytes (g ∷ gs) (here p (ts ++ more) fs) e)

  passes_one : (k : TokenKind) → Reaches (Do (Pass k)) (k ∷ [])
  passes_one k [] h p more fs = absurd h
  passes_one k (t ∷ []) h p more fs = (t.end, fs, λ gs e d. does (rw h.0 refl) d)
  passes_one k (t ∷ (u ∷ us)) h p more fs = absurd h.1

  -- nothing is read, so nothing stands there
  passes_none : (g : RightSide N) → ((p : ℕ) (more : List Token) (fs : List OpenNode) → (gs' : List OpenNode) × ((gs : List (RightSide N)) (e : State) → Reads N P bytes gs (here p more gs') e → Reads N P bytes (g ∷ gs) (here p more fs) e)) → Reaches g []
  passes_none g f [] h p more fs = let z = f p more fs in (p, z.0, z.1)
  passes_none g f (t ∷ ts) h p more fs = absurd h

  nothing_passed : (a : Act) → ((p : ℕ) (ts : List Token) (fs : List OpenNode) → (gs' : List OpenNode) × (acted bytes a (here p ts fs) ≡ Some (here p ts gs'))) → Reaches (Do a) []
  nothing_passed a h = passes_none (Do a) (λ p more fs. let z = h p more fs in (z.0, λ gs e d. does z.1 d))

  begun_looks : (a : Ahead) (x : List TokenKind) (ts more : List Token) → AreOf x ts → begins_so a x ≡ true → looks a (ts ++ more) ≡ true
  begun_looks (OneOf ks) [] ts more w h = cc
  begun_looks (OneOf ks) (k ∷ x) [] more w h = absurd w
  begun_looks (OneOf ks) (k ∷ x) (t ∷ ts) more w h = is_in_same ks k t.kind h w.0
  begun_looks (Both i j) [] ts more w h = cc
  begun_looks (Both i j) (k ∷ []) ts more w h = cc
  begun_looks (Both i j) (k ∷ (l ∷ x)) [] more w h = absurd w
  begun_looks (Both i j) (k ∷ (l ∷ x)) (t ∷ []) more w h = absurd w.1
  begun_looks (Both i j) (k ∷ (l ∷ x)) (t ∷ (u ∷ us)) more w h = let z = and_parts (same_kind i k) (same_kind j l) h in rw (same_after i k t.kind z.0 w.0) (same_after j l u.kind z.1 w.1.0)

  joined : (x y : Option (List TokenKind)) (ks : List TokenKind) → join x y ≡ Some ks → (a b : List TokenKind) × (x ≡ Some a) × (y ≡ Some b) × (ks ≡ a ++ b)
  joined None y ks h = cc
  joined (Some a) None ks h = cc
  joined (Some a) (Some b) ks h = (a, b, refl, refl, cc)

  spelled : (r : ℕ) → ((n : N) → X.rank n < r → Reaches (Call n) (X.brief n)) → (g : RightSide N) (ks : List TokenKind) → spell X r g ≡ Some ks → Reaches g ks
  spelled r below (Do (Pass k)) ks h = let q : k ∷ [] ≡ ks = cc in subst (λ x. Reaches (Do (Pass k)) x) q (passes_one k)
  spelled r below (Do Open) ks h = let q : [] ≡ ks = cc in subst (λ x. Reaches (Do Open) x) q (nothing_passed Open (λ p ts fs. (record { start = next_start p ts; parts = [] } ∷ fs, refl)))
  spelled r below (Do Reopen) ks h = let q : [] ≡ ks = cc in subst (λ x. Reaches (Do Reopen) x) q (nothing_passed Reopen (λ p ts fs. (reopen fs, refl)))
  spelled r below (Do Adopt) ks h = let q : [] ≡ ks = cc in subst (λ x. Reaches (Do Adopt) x) q (nothing_passed Adopt (λ p ts fs. (adopt fs, refl)))
  spelled r below (Do CheckType) ks h = cc
  spelled r below (Do (Close k)) ks h = let q : [] ≡ ks = cc in subst (λ x. Reaches (Do (Close k)) x) q (nothing_passed (Close k) (λ p ts fs. (close_last bytes k p fs, refl)))
  spelled r below (Call n) ks h = go (nat_lt (X.rank n) r) refl h
    where
      go : (b : Bool) → nat_lt (X.rank n) r ≡ b → cond b (Some (X.brief n)) None ≡ Some ks → Reaches (Call n) ks
      go true e h = let q : X.brief n ≡ ks = cc in subst (λ x. Reaches (Call n) x) q (below n (below_lt (X.rank n) r e))
      go false e h = cc
  spelled r below Nothing ks h = let q : [] ≡ ks = cc in subst (λ x. Reaches Nothing x) q (passes_none Nothing (λ p more fs. (fs, λ gs e d. nothing d)))
  spelled r below (Seq g f) ks h = go (joined (spell X r g) (spell X r f) ks h) (spelled r below g) (spelled r below f)
    where
      go : ((a b : List TokenKind) × (spell X r g ≡ Some a) × (spell X r f ≡ Some b) × (ks ≡ a ++ b)) → ((k : List TokenKind) → spell X r g ≡ Some k → Reaches g k) → ((k : List TokenKind) → spell X r f ≡ Some k → Reaches f k) → Reaches (Seq g f) ks
      go j u v ts are p more fs =
          let z = parted j.0 j.1 ts (subst (λ x. AreOf x ts) j.4 are) in
          let first = u j.0 j.2 z.0 z.3 p (z.1 ++ more) fs in
          let second = v j.1 j.3 z.1 z.4 first.0 more first.1 in
          let all : z.0 ++ (z.1 ++ more) ≡ ts ++ more = sym (append_assoc z.0 z.1 more) ∙ ap (λ x. x ++ more) (sym z.2) in
          (second.0, second.1, λ gs e d. in_turn (subst (λ x. Reads N P bytes (g ∷ f ∷ gs) (here p x fs) e) all (first.2 (f ∷ gs) e (second.2 gs e d))))
  spelled r below (Or g f) ks h = go (spell X r g) refl h (spelled r below g) (spelled r below f)
    where
      go : (x : Option (List TokenKind)) → spell X r g ≡ x → either x (spell X r f) ≡ Some ks → ((k : List TokenKind) → spell X r g ≡ Some k → Reaches g k) → ((k : List TokenKind) → spell X r f ≡ Some k → Reaches f k) → Reaches (Or g f) ks
      go None e h u v ts are p more fs = let z = v ks h ts are p more fs in (z.0, z.1, λ gs e d. right (z.2 gs e d))
      go (Some a) e h u v ts are p more fs = let q : spell X r g ≡ Some ks = cc in let z = u ks q ts are p more fs in (z.0, z.1, λ gs e d. left (z.2 gs e d))
  spelled r below (Many g) ks h = let q : [] ≡ ks = cc in subst (λ x. Reaches (Many g) x) q (passes_none (Many g) (λ p more fs. (fs, λ gs e d. done d)))
  spelled r below (When a g f) ks h = go (spell X r g) refl h (spelled r below g)
    where
      go : (x : Option (List TokenKind)) → spell X r g ≡ x → if_begun a x ≡ Some ks → ((k : List TokenKind) → spell X r g ≡ Some k → Reaches g k) → Reaches (When a g f) ks
      go None e h u = cc
      go (Some x) e h u = begun (begins_so a x) refl h
        where
          begun : (b : Bool) → begins_so a x ≡ b → cond b (Some x) None ≡ Some ks → Reaches (When a g f) ks
          begun true i h = let q : x ≡ ks = cc in subst (λ y. Reaches (When a g f) y) q (λ ts are p more fs. let z = u x e ts are p more fs in (z.0, z.1, λ gs e d. chosen (begun_looks a x ts more are i) (z.2 gs e d)))
          begun false i h = cc

  reaches_below : ((n : N) → spell X (X.rank n) (P n) ≡ Some (X.brief n)) → (r : ℕ) (n : N) → X.rank n < r → Reaches (Call n) (X.brief n)
  reaches_below ok zero n h = absurd (omega arith)
  reaches_below ok (suc r) n h = let y = spelled (X.rank n) (λ m k. reaches_below ok r m (omega arith)) (P n) (X.brief n) (ok n) in λ ts are p more fs. let z = y ts are p more fs in (z.0, z.1, λ gs e d. calls (z.2 gs e d))

  choose : (A : Type 0) (b : Bool) (x y : A) (Q : A → Type 0) → Q x → Q y → Q (cond b x y)
  choose A true x y Q p q = p
  choose A false x y Q p q = q

  there : (o : Option (List TokenKind)) → is_there o ≡ true → (ks : List TokenKind) × (o ≡ Some ks)
  there None h = cc
  there (Some ks) h = (ks, refl)

  -- tokens of the kinds of the completion complete these right sides
  abbrev pub Completes : ℕ → List (RightSide N) → Type 0
  Completes r gs = (ts : List Token) → AreOf (completion X r gs) ts → (p : ℕ) (fs : List OpenNode) → (e : State) × Reads N P bytes gs (here p ts fs) e × (e.rest ≡ [])

  completes_first : (r : ℕ) → HaveTexts N P X r → (g : RightSide N) (gs : List (RightSide N)) → is_there (spell X r g) ≡ true → Completes r gs → Completes r (g ∷ gs)
  completes_first r ok g gs h later ts are p fs =
      let s = there (spell X r g) h in
      let text : text_or_none (spell X r g) ≡ s.0 = ap text_or_none s.1 in
      let z = parted s.0 (completion X r gs) ts (subst (λ x. AreOf (x ++ completion X r gs) ts) text are) in
      let reach = spelled r (reaches_below ok.brief r) g s.0 s.1 z.0 z.3 p z.1 fs in
      let rest = later z.1 z.4 reach.0 reach.1 in
      (rest.0, subst (λ x. Reads N P bytes (g ∷ gs) (here p x fs) rest.0) (sym z.2) (reach.2 gs rest.0 rest.1), rest.2)

  -- what is firm is completed by tokens of the kinds of its completion, wherever they stand
  pub firm_completes_by : (r : ℕ) → HaveTexts N P X r → (gs : List (RightSide N)) → Firm X r gs → Completes r gs
  firm_completes_by r ok [] a [] are p fs = (here p [] fs, at_end, refl)
  firm_completes_by r ok [] a (t ∷ ts) are p fs = absurd are
  firm_completes_by r ok (g ∷ gs) a ts are p fs = completes_first r ok g gs a.1 (firm_completes_by r ok gs a.2) ts are p fs

  -- so is what has a text, and what is firm behind it
  pub text_completes_by : (r : ℕ) → HaveTexts N P X r → (g : RightSide N) (gs : List (RightSide N)) → is_there (spell X r g) ≡ true → Firm X r gs → Completes r (g ∷ gs)
  text_completes_by r ok g gs h a = completes_first r ok g gs h (firm_completes_by r ok gs a)

  -- the completion completes what is firm
  pub firm_completes : (r : ℕ) → HaveTexts N P X r → (gs : List (RightSide N)) → Firm X r gs → (p : ℕ) (fs : List OpenNode) → (e : State) × Reads N P bytes gs (here p (tokens_of (completion X r gs)) fs) e × (e.rest ≡ [])
  firm_completes r ok gs a = firm_completes_by r ok gs a (tokens_of (completion X r gs)) (tokens_are (completion X r gs))

  pub firm_held : (r : ℕ) (gs : List (RightSide N)) → Firm X r gs → Held X r gs
  firm_held r [] a = tt
  firm_held r (g ∷ gs) a = (a.0, a.2)

  -- an expansion keeps it, and an act that is made leaves what is behind it firm
  pub expand_held : (T : Tables N) (r : ℕ) → HaveTexts N P X r → (g : RightSide N) (gs : List (RightSide N)) (t : Token) (ts : List Token) → Held X r (g ∷ gs) → Held X r (expand P T t ts g gs)
  expand_held T r ok (Do a) gs t ts d = d
  expand_held T r ok (Call n) gs t ts d = (ok.parts n, d.1)
  expand_held T r ok Nothing gs t ts d = firm_held r gs d.1
  expand_held T r ok (Seq g f) gs t ts d = let b = and_parts (holds X r g) (holds X r f && is_there (spell X r f)) d.0 in let c = and_parts (holds X r f) (is_there (spell X r f)) b.1 in (b.0, (c.0, c.1, d.1))
  expand_held T r ok (Or g f) gs t ts d = let b = and_parts (holds X r g) (holds X r f) d.0 in choose _ (next_of T g (starts T gs) t.kind) (g ∷ gs) (f ∷ gs) (Held X r) (b.0, d.1) (b.1, d.1)
  expand_held T r ok (Many g) gs t ts d = choose _ (begins T g t.kind) (g ∷ Many g ∷ gs) gs (Held X r) (d.0, (d.0, refl, d.1)) (firm_held r gs d.1)
  expand_held T r ok (When a g f) gs t ts d = let b = and_parts (holds X r g) (holds X r f) d.0 in choose _ (looks a (t ∷ ts)) (g ∷ gs) (f ∷ gs) (Held X r) (b.0, d.1) (b.1, d.1)
