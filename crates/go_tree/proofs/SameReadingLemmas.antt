-- Right sides that read the same: parts that are replaced, and what repeats itself.
use Rattle.std.proofs.Common.{◌≡◌, ℕ, zero, suc, ◌≤◌, Bool, true, false, cond, List, [], ◌∷◌, length, refl, subst, None, Some, ◌↔◌, arith}
use Rattle.go_tree.specs.declared.token.Token.{Token}
use Rattle.go_tree.specs.declared.token.TokenKind.{TokenKind}
use Rattle.go_tree.specs.Grammar.RightSide.{RightSide, Do, Call, Nothing, Seq, Or, Many, Act, Pass, Open, Reopen, Adopt, CheckType, Close}
use Rattle.go_tree.specs.Grammar.Tables.TokenKinds.{same_kind}
use Rattle.go_tree.specs.Grammar.Trees.Reading.{State, OpenNode, Reads, at_end, does, calls, nothing, in_turn, left, right, done, again, chosen, passed_by, acted, passed, ends_in_type}
use Rattle.go_tree.proofs.ReadingLemmas.{split, join, in_turn_of}

taken : (b : Bool) (t : Token) (ts : List Token) (fs : List OpenNode) (m : State) → cond b (Some (record { last = t.end; rest = ts; open_nodes = fs })) None ≡ Some m → length m.rest ≤ length ts
taken true t ts fs m h = let q : ts ≡ m.rest = cc in subst (λ x. length x ≤ length ts) q (omega arith)
taken false t ts fs m h = cc

-- a token that is passed is left no longer
pub passes_one : (k : TokenKind) (r : List Token) (fs : List OpenNode) (m : State) → passed k r fs ≡ Some m → suc (length m.rest) ≤ length r
passes_one k [] fs m h = cc
passes_one k (t ∷ ts) fs m h = let z = taken (same_kind k t.kind) t ts fs m h in omega arith

-- and the open nodes stay
pub passes_keep : (k : TokenKind) (r : List Token) (fs : List OpenNode) (m : State) → passed k r fs ≡ Some m → m.open_nodes ≡ fs
passes_keep k [] fs m h = cc
passes_keep k (t ∷ ts) fs m h = go (same_kind k t.kind) h
  where
    go : (b : Bool) → cond b (Some (record { last = t.end; rest = ts; open_nodes = fs })) None ≡ Some m → m.open_nodes ≡ fs
    go true h = cc
    go false h = cc

checked : (b : Bool) (s m : State) → cond b (Some s) None ≡ Some m → length m.rest ≤ length s.rest
checked true s m h = let q : s ≡ m = cc in subst (λ x. length x.rest ≤ length s.rest) q (omega arith)
checked false s m h = cc

same_rest : (s m : State) → s.rest ≡ m.rest → length m.rest ≤ length s.rest
same_rest s m q = subst (λ x. length x ≤ length s.rest) q (omega arith)

act_shrinks : (bytes : List ℕ) (a : Act) (s m : State) → acted bytes a s ≡ Some m → length m.rest ≤ length s.rest
act_shrinks bytes (Pass k) s m h = let z = passes_one k s.rest s.open_nodes m h in omega arith
act_shrinks bytes Open s m h = same_rest s m cc
act_shrinks bytes Reopen s m h = same_rest s m cc
act_shrinks bytes Adopt s m h = same_rest s m cc
act_shrinks bytes CheckType s m h = checked (ends_in_type s.open_nodes) s m h
act_shrinks bytes (Close k) s m h = same_rest s m cc

module _ (N : Type 0) (P : N → RightSide N) where
  -- both read the same, wherever they stand
  abbrev pub Same : RightSide N → RightSide N → Type 0
  Same g h = (bytes : List ℕ) (gs : List (RightSide N)) (s e : State) → Reads N P bytes (g ∷ gs) s e ↔ Reads N P bytes (h ∷ gs) s e

  -- each reading of it passes a token
  abbrev pub PassesToken : RightSide N → Type 0
  PassesToken a = (bytes : List ℕ) (s m : State) → Reads N P bytes (a ∷ []) s m → suc (length m.rest) ≤ length s.rest

module _ {N : Type 0} {P : N → RightSide N} where
  -- no tokens are left that were not left before
  pub shrinks : {bytes : List ℕ} {gs : List (RightSide N)} {s e : State} → Reads N P bytes gs s e → length e.rest ≤ length s.rest
  shrinks (at_end {s = s}) = let n : ℕ = length s.rest in omega arith
  shrinks {bytes} (does {a = a} {s = s} {m = m} h d) = let x = act_shrinks bytes a s m h in let y = shrinks d in omega arith
  shrinks (calls d) = shrinks d
  shrinks (nothing d) = shrinks d
  shrinks (in_turn d) = shrinks d
  shrinks (left d) = shrinks d
  shrinks (right d) = shrinks d
  shrinks (done d) = shrinks d
  shrinks (again d) = shrinks d
  shrinks (chosen w d) = shrinks d
  shrinks (passed_by w d) = shrinks d

  pub same_sym : {g h : RightSide N} → Same N P g h → Same N P h g
  same_sym q bytes gs s e = ((q bytes gs s e).1, (q bytes gs s e).0)

  pub same_trans : {f g h : RightSide N} → Same N P f g → Same N P g h → Same N P f h
  same_trans p q bytes gs s e = (λ d. (q bytes gs s e).0 ((p bytes gs s e).0 d), λ d. (p bytes gs s e).1 ((q bytes gs s e).1 d))

  pub same_refl : (g : RightSide N) → Same N P g g
  same_refl g bytes gs s e = (λ d. d, λ d. d)

  pub same_call : (n : N) → Same N P (Call n) (P n)
  same_call n bytes gs s e = (ahead, λ d. calls d)
    where
      ahead : Reads N P bytes (Call n ∷ gs) s e → Reads N P bytes (P n ∷ gs) s e
      ahead (calls d) = d

  then_ahead : {a b c : RightSide N} → ((bytes : List ℕ) (gs : List (RightSide N)) (s e : State) → Reads N P bytes (b ∷ gs) s e → Reads N P bytes (c ∷ gs) s e) → (bytes : List ℕ) (gs : List (RightSide N)) (s e : State) → Reads N P bytes (Seq a b ∷ gs) s e → Reads N P bytes (Seq a c ∷ gs) s e
  then_ahead {a} {b} {c} f bytes gs s e (in_turn d) = let r = split N P bytes d (a ∷ []) (b ∷ gs) refl in in_turn (join N P bytes r.1 (f bytes gs r.0 e r.2))

  -- the second part is replaced
  pub same_then : {a b c : RightSide N} → Same N P b c → Same N P (Seq a b) (Seq a c)
  same_then q bytes gs s e = (then_ahead (λ bytes gs s e. (q bytes gs s e).0) bytes gs s e, then_ahead (λ bytes gs s e. (q bytes gs s e).1) bytes gs s e)

  first_ahead : {a b c : RightSide N} → ((bytes : List ℕ) (gs : List (RightSide N)) (s e : State) → Reads N P bytes (a ∷ gs) s e → Reads N P bytes (b ∷ gs) s e) → (bytes : List ℕ) (gs : List (RightSide N)) (s e : State) → Reads N P bytes (Seq a c ∷ gs) s e → Reads N P bytes (Seq b c ∷ gs) s e
  first_ahead {a} {b} {c} f bytes gs s e (in_turn d) = in_turn (f bytes (c ∷ gs) s e d)

  -- the first part is replaced
  pub same_first : {a b c : RightSide N} → Same N P a b → Same N P (Seq a c) (Seq b c)
  same_first q bytes gs s e = (first_ahead (λ bytes gs s e. (q bytes gs s e).0) bytes gs s e, first_ahead (λ bytes gs s e. (q bytes gs s e).1) bytes gs s e)

  or_ahead : {a b c d : RightSide N} {bytes : List ℕ} {gs : List (RightSide N)} {s e : State} → (Reads N P bytes (a ∷ gs) s e → Reads N P bytes (b ∷ gs) s e) → (Reads N P bytes (c ∷ gs) s e → Reads N P bytes (d ∷ gs) s e) → Reads N P bytes (Or a c ∷ gs) s e → Reads N P bytes (Or b d ∷ gs) s e
  or_ahead f g (left x) = left (f x)
  or_ahead f g (right y) = right (g y)

  -- both alternatives are replaced
  pub same_or : {a b c d : RightSide N} → Same N P a b → Same N P c d → Same N P (Or a c) (Or b d)
  same_or p q bytes gs s e = (or_ahead (p bytes gs s e).0 (q bytes gs s e).0, or_ahead (p bytes gs s e).1 (q bytes gs s e).1)

  -- [ x ] { a }, with the first a apart
  pub opt_many : (x a : RightSide N) → Same N P (Seq (Or x Nothing) (Many a)) (Or (Seq x (Many a)) (Or (Seq a (Many a)) Nothing))
  opt_many x a bytes gs s e = (ahead, back)
    where
      ahead : Reads N P bytes (Seq (Or x Nothing) (Many a) ∷ gs) s e → Reads N P bytes (Or (Seq x (Many a)) (Or (Seq a (Many a)) Nothing) ∷ gs) s e
      ahead (in_turn (left d)) = left (in_turn d)
      ahead (in_turn (right (nothing (done d)))) = right (right (nothing d))
      ahead (in_turn (right (nothing (again d)))) = right (left (in_turn d))

      back : Reads N P bytes (Or (Seq x (Many a)) (Or (Seq a (Many a)) Nothing) ∷ gs) s e → Reads N P bytes (Seq (Or x Nothing) (Many a) ∷ gs) s e
      back (left (in_turn d)) = in_turn (left d)
      back (right (left (in_turn d))) = in_turn (right (nothing (again d)))
      back (right (right (nothing d))) = in_turn (right (nothing (done d)))

  -- { a } x, with the first a apart
  pub many_then : (a x : RightSide N) → Same N P (Seq (Many a) x) (Or (Seq a (Seq (Many a) x)) x)
  many_then a x bytes gs s e = (ahead, back)
    where
      ahead : Reads N P bytes (Seq (Many a) x ∷ gs) s e → Reads N P bytes (Or (Seq a (Seq (Many a) x)) x ∷ gs) s e
      ahead (in_turn (done d)) = right d
      ahead (in_turn (again d)) = let r = split N P bytes d (a ∷ []) (Many a ∷ x ∷ gs) refl in left (in_turn (join N P bytes r.1 (in_turn r.2)))

      back_turn : {m : State} → Reads N P bytes (a ∷ []) s m → Reads N P bytes (Seq (Many a) x ∷ gs) m e → Reads N P bytes (Seq (Many a) x ∷ gs) s e
      back_turn c (in_turn d) = in_turn (again (join N P bytes c d))

      back : Reads N P bytes (Or (Seq a (Seq (Many a) x)) x ∷ gs) s e → Reads N P bytes (Seq (Many a) x ∷ gs) s e
      back (left (in_turn d)) = let r = split N P bytes d (a ∷ []) (Seq (Many a) x ∷ gs) refl in back_turn r.1 r.2
      back (right d) = in_turn (done d)

  pub token_passes : (k : TokenKind) → PassesToken N P (Do (Pass k))
  token_passes k bytes s m (does {m = x} h d) = let one = passes_one k s.rest s.open_nodes x h in let less = shrinks d in omega arith

  pub first_passes : (a b : RightSide N) → PassesToken N P a → PassesToken N P (Seq a b)
  first_passes a b f bytes s m (in_turn d) = let r = split N P bytes d (a ∷ []) (b ∷ []) refl in let one = f bytes s r.0 r.1 in let less = shrinks r.2 in omega arith

  pub second_passes : (a b : RightSide N) → PassesToken N P b → PassesToken N P (Seq a b)
  second_passes a b f bytes s m (in_turn d) = let r = split N P bytes d (a ∷ []) (b ∷ []) refl in let less = shrinks r.1 in let one = f bytes r.0 m r.2 in omega arith

  pub both_pass : (a b : RightSide N) → PassesToken N P a → PassesToken N P b → PassesToken N P (Or a b)
  both_pass a b f g bytes s m (left d) = f bytes s m d
  both_pass a b f g bytes s m (right d) = g bytes s m d

  module _ (r a b : RightSide N) (same : Same N P r (Or (Seq a r) b)) (passes : PassesToken N P a) (bytes : List ℕ) (gs : List (RightSide N)) (e : State) where
    repeats_ahead : (k : ℕ) (s : State) → length s.rest ≤ k → Reads N P bytes (r ∷ gs) s e → Reads N P bytes (Many a ∷ b ∷ gs) s e
    repeats_ahead zero s f d = go ((same bytes gs s e).0 d)
      where
        go : Reads N P bytes (Or (Seq a r) b ∷ gs) s e → Reads N P bytes (Many a ∷ b ∷ gs) s e
        go (right y) = done y
        go (left (in_turn x)) = let z = split N P bytes x (a ∷ []) (r ∷ gs) refl in let one = passes bytes s z.0 z.1 in absurd (omega arith)
    repeats_ahead (suc k) s f d = go (repeats_ahead k) ((same bytes gs s e).0 d)
      where
        go : ((s : State) → length s.rest ≤ k → Reads N P bytes (r ∷ gs) s e → Reads N P bytes (Many a ∷ b ∷ gs) s e) → Reads N P bytes (Or (Seq a r) b ∷ gs) s e → Reads N P bytes (Many a ∷ b ∷ gs) s e
        go later (right y) = done y
        go later (left (in_turn x)) = let z = split N P bytes x (a ∷ []) (r ∷ gs) refl in let one = passes bytes s z.0 z.1 in let fits : length z.0.rest ≤ k = omega arith in again (join N P bytes z.1 (later z.0 fits z.2))

    repeats_back : (k : ℕ) (s : State) → length s.rest ≤ k → Reads N P bytes (Many a ∷ b ∷ gs) s e → Reads N P bytes (r ∷ gs) s e
    repeats_back zero s f (done y) = (same bytes gs s e).1 (right y)
    repeats_back zero s f (again x) = let z = split N P bytes x (a ∷ []) (Many a ∷ b ∷ gs) refl in let one = passes bytes s z.0 z.1 in absurd (omega arith)
    repeats_back (suc k) s f (done y) = (same bytes gs s e).1 (right y)
    repeats_back (suc k) s f (again x) = let z = split N P bytes x (a ∷ []) (Many a ∷ b ∷ gs) refl in let one = passes bytes s z.0 z.1 in let fits : length z.0.rest ≤ k = omega arith in (same bytes gs s e).1 (left (in_turn (join N P bytes z.1 (repeats_back k z.0 fits z.2))))

  -- what reads a and then itself, or b, reads { a } b
  pub repeats : (r a b : RightSide N) → Same N P r (Or (Seq a r) b) → PassesToken N P a → Same N P r (Seq (Many a) b)
  repeats r a b same passes bytes gs s e = (
    λ d. in_turn (repeats_ahead r a b same passes bytes gs e (length s.rest) s (omega arith) d),
    λ d. repeats_back r a b same passes bytes gs e (length s.rest) s (omega arith) (in_turn_of d),
  )
