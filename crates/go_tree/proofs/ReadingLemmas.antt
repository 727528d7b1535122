-- Reading in two parts.
use Rattle.std.proofs.Common.{ℕ, ◌≡◌, List, [], ◌∷◌, ◌++◌, subst, ap}
use Rattle.go_tree.specs.Grammar.RightSide.{RightSide, Do, Call, Nothing, Seq, Or, Many, When}
use Rattle.go_tree.specs.Grammar.Trees.Reading.{State, Reads, at_end, does, calls, nothing, in_turn, left, right, done, again, chosen, passed_by}

module _ (N : Type 0) (P : N → RightSide N) (bytes : List ℕ) where
  pub split : {all : List (RightSide N)} {s e : State} → Reads N P bytes all s e → (pre A : List (RightSide N)) → all ≡ pre ++ A → (m : State) × Reads N P bytes pre s m × Reads N P bytes A m e
  split (at_end {s = s}) [] A q = (s, at_end, subst (λ x. Reads N P bytes x s s) q at_end)
  split at_end (p ∷ ps) A q = cc
  split (does {a = a} {gs = gs} {s = s} {e = e} h d) [] A q = (s, at_end, subst (λ x. Reads N P bytes x s e) q (does h d))
  split (does {a = a} {gs = gs} {s = s} {e = e} h d) (p ∷ ps) A q = let y : gs ≡ ps ++ A = cc in let x : Do a ≡ p = cc in let r = split d (ps) A y in (r.0, subst (λ z. Reads N P bytes (z ∷ ps) s r.0) x (does h r.1), r.2)
  split (calls {n = n} {gs = gs} {s = s} {e = e} d) [] A q = (s, at_end, subst (λ x. Reads N P bytes x s e) q (calls d))
  split (calls {n = n} {gs = gs} {s = s} {e = e} d) (p ∷ ps) A q = let y : gs ≡ ps ++ A = cc in let x : Call n ≡ p = cc in let r = split d (P n ∷ ps) A (ap (λ z. P n ∷ z) y) in (r.0, subst (λ z. Reads N P bytes (z ∷ ps) s r.0) x (calls r.1), r.2)
  split (nothing {gs = gs} {s = s} {e = e} d) [] A q = (s, at_end, subst (λ x. Reads N P bytes x s e) q (nothing d))
  split (nothing {gs = gs} {s = s} {e = e} d) (p ∷ ps) A q = let y : gs ≡ ps ++ A = cc in let x : Nothing ≡ p = cc in let r = split d (ps) A y in (r.0, subst (λ z. Reads N P bytes (z ∷ ps) s r.0) x (nothing r.1), r.2)
  split (in_turn {g = g} {h = h} {gs = gs} {s = s} {e = e} d) [] A q = (s, at_end, subst (λ x. Reads N P bytes x s e) q (in_turn d))
  split (in_turn {g = g} {h = h} {gs = gs} {s = s} {e = e} d) (p ∷ ps) A q = let y : gs ≡ ps ++ A = cc in let x : Seq g h ≡ p = cc in let r = split d (g ∷ h ∷ ps) A (ap (λ z. g ∷ h ∷ z) y) in (r.0, subst (λ z. Reads N P bytes (z ∷ ps) s r.0) x (in_turn r.1), r.2)
  split (left {g = g} {h = h} {gs = gs} {s = s} {e = e} d) [] A q = (s, at_end, subst (λ x. Reads N P bytes x s e) q (left d))
  split (left {g = g} {h = h} {gs = gs} {s = s} {e = e} d) (p ∷ ps) A q = let y : gs ≡ ps ++ A = cc in let x : Or g h ≡ p = cc in let r = split d (g ∷ ps) A (ap (λ z. g ∷ z) y) in (r.0, subst (λ z. Reads N P bytes (z ∷ ps) s r.0) x (left r.1), r.2)
  split (right {g = g} {h = h} {gs = gs} {s = s} {e = e} d) [] A q = (s, at_end, subst (λ x. Reads N P bytes x s e) q (right d))
  split (right {g = g} {h = h} {gs = gs} {s = s} {e = e} d) (p ∷ ps) A q = let y : gs ≡ ps ++ A = cc in let x : Or g h ≡ p = cc in let r = split d (h ∷ ps) A (ap (λ z. h ∷ z) y) in (r.0, subst (λ z. Reads N P bytes (z ∷ ps) s r.0) x (right r.1), r.2)
  split (chosen {a = a} {g = g} {h = h} {gs = gs} {s = s} {e = e} w d) [] A q = (s, at_end, subst (λ x. Reads N P bytes x s e) q (chosen w d))
  split (chosen {a = a} {g = g} {h = h} {gs = gs} {s = s} {e = e} w d) (p ∷ ps) A q = let y : gs ≡ ps ++ A = cc in let x : When a g h ≡ p = cc in let r = split d (g ∷ ps) A (ap (λ z. g ∷ z) y) in (r.0, subst (λ z. Reads N P bytes (z ∷ ps) s r.0) x (chosen w r.1), r.2)
  split (passed_by {a = a} {g = g} {h = h} {gs = gs} {s = s} {e = e} w d) [] A q = (s, at_end, subst (λ x. Reads N P bytes x s e) q (passed_by w d))
  split (passed_by {a = a} {g = g} {h = h} {gs = gs} {s = s} {e = e} w d) (p ∷ ps) A q = let y : gs ≡ ps ++ A = cc in let x : When a g h ≡ p = cc in let r = split d (h ∷ ps) A (ap (λ z. h ∷ z) y) in (r.0, subst (λ z. Reads N P bytes (z ∷ ps) s r.0) x (passed_by w r.1), r.2)
  split (done {g = g} {gs = gs} {s = s} {e = e} d) [] A q = (s, at_end, subst (λ x. Reads N P bytes x s e) q (done d))
  split (done {g = g} {gs = gs} {s = s} {e = e} d) (p ∷ ps) A q = let y : gs ≡ ps ++ A = cc in let x : Many g ≡ p = cc in let r = split d (ps) A y in (r.0, subst (λ z. Reads N P bytes (z ∷ ps) s r.0) x (done r.1), r.2)
  split (again {g = g} {gs = gs} {s = s} {e = e} d) [] A q = (s, at_end, subst (λ x. Reads N P bytes x s e) q (again d))
  split (again {g = g} {gs = gs} {s = s} {e = e} d) (p ∷ ps) A q = let y : gs ≡ ps ++ A = cc in let x : Many g ≡ p = cc in let r = split d (g ∷ Many g ∷ ps) A (ap (λ z. g ∷ Many g ∷ z) y) in (r.0, subst (λ z. Reads N P bytes (z ∷ ps) s r.0) x (again r.1), r.2)

  pub join : {pre A : List (RightSide N)} {s m e : State} → Reads N P bytes pre s m → Reads N P bytes A m e → Reads N P bytes (pre ++ A) s e
  join at_end d = d
  join (does h c) d = does h (join c d)
  join (calls c) d = calls (join c d)
  join (nothing c) d = nothing (join c d)
  join (in_turn c) d = in_turn (join c d)
  join (left c) d = left (join c d)
  join (right c) d = right (join c d)
  join (chosen w c) d = chosen w (join c d)
  join (passed_by w c) d = passed_by w (join c d)
  join (done c) d = done (join c d)
  join (again c) d = again (join c d)

module _ {N : Type 0} {P : N → RightSide N} {bytes : List ℕ} where
  pub in_turn_of : {g h : RightSide N} {gs : List (RightSide N)} {s e : State} → Reads N P bytes (Seq g h ∷ gs) s e → Reads N P bytes (g ∷ h ∷ gs) s e
  in_turn_of (in_turn d) = d
