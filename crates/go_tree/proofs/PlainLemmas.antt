-- Right sides by their alternatives: two with the same alternatives read the same.
use Rattle.std.proofs.Common.{◌≡◌, ℕ, zero, suc, Bool, true, false, List, [], ◌∷◌, ◌++◌, refl, sym, subst, Option, None, Some, map, append_assoc, ◌↔◌, ◌⊎◌, inl, inr}
use Rattle.go_tree.specs.Grammar.RightSide.{RightSide, Do, Call, Nothing, Seq, Or, Many, When}
use Rattle.go_tree.specs.Grammar.Trees.Reading.{State, Reads, calls, nothing, in_turn, left, right}
use Rattle.go_tree.proofs.ReadingLemmas.{split, join}

abbrev each_with : {X : Type 0} → List X → List (List X) → List (List X)
each_with a [] = []
each_with a (b ∷ ys) = (a ++ b) ∷ each_with a ys

abbrev pairs : {X : Type 0} → List (List X) → List (List X) → List (List X)
pairs [] ys = []
pairs (a ∷ xs) ys = each_with a ys ++ pairs xs ys

-- the alternatives of a right side, where each production has those that are given
abbrev alternatives_with : {N : Type 0} → (N → List (List (RightSide N))) → RightSide N → List (List (RightSide N))
alternatives_with go (Do a) = (Do a ∷ []) ∷ []
alternatives_with go (Call n) = go n
alternatives_with go Nothing = [] ∷ []
alternatives_with go (Seq g h) = pairs (alternatives_with go g) (alternatives_with go h)
alternatives_with go (Or g h) = alternatives_with go g ++ alternatives_with go h
alternatives_with go (Many g) = (Many g ∷ []) ∷ []
alternatives_with go (When a g h) = (When a g h ∷ []) ∷ []

-- the productions that are marked are opened so often
abbrev opened : {N : Type 0} → (N → RightSide N) → (ℕ → N → Bool) → ℕ → N → List (List (RightSide N))
opened P U zero n = (Call n ∷ []) ∷ []
opened P U (suc k) n = elim (U k n) [ true ↦ alternatives_with (opened P U k) (P n) | false ↦ (Call n ∷ []) ∷ [] ]

abbrev pub alternatives : {N : Type 0} → (N → RightSide N) → (ℕ → N → Bool) → ℕ → RightSide N → List (List (RightSide N))
alternatives P U k g = alternatives_with (opened P U k) g

abbrev nth_of : {X : Type 0} → ℕ → List X → Option X
nth_of k [] = None
nth_of zero (x ∷ xs) = Some x
nth_of (suc k) (x ∷ xs) = nth_of k xs

-- those at these places
abbrev pub at_places : {X : Type 0} → List ℕ → List X → List (Option X)
at_places [] xs = []
at_places (k ∷ ks) xs = nth_of k xs ∷ at_places ks xs

module _ (N : Type 0) (P : N → RightSide N) (bytes : List ℕ) where
  SomeReads : List (List (RightSide N)) → List (RightSide N) → State → State → Type 0
  SomeReads [] gs s e = ⊥
  SomeReads (a ∷ xs) gs s e = Reads N P bytes (a ++ gs) s e ⊎ SomeReads xs gs s e

  some_left : (xs ys : List (List (RightSide N))) (gs : List (RightSide N)) (s e : State) → SomeReads xs gs s e → SomeReads (xs ++ ys) gs s e
  unfolding SomeReads
  some_left [] ys gs s e h = absurd h
  some_left (a ∷ xs) ys gs s e (inl d) = inl d
  some_left (a ∷ xs) ys gs s e (inr h) = inr (some_left xs ys gs s e h)

  some_right : (xs ys : List (List (RightSide N))) (gs : List (RightSide N)) (s e : State) → SomeReads ys gs s e → SomeReads (xs ++ ys) gs s e
  unfolding SomeReads
  some_right [] ys gs s e h = h
  some_right (a ∷ xs) ys gs s e h = inr (some_right xs ys gs s e h)

  some_either : (xs ys : List (List (RightSide N))) (gs : List (RightSide N)) (s e : State) → SomeReads (xs ++ ys) gs s e → SomeReads xs gs s e ⊎ SomeReads ys gs s e
  unfolding SomeReads
  some_either [] ys gs s e h = inr h
  some_either (a ∷ xs) ys gs s e (inl d) = inl (inl d)
  some_either (a ∷ xs) ys gs s e (inr h) = go (some_either xs ys gs s e h)
    where
      go : SomeReads xs gs s e ⊎ SomeReads ys gs s e → SomeReads (a ∷ xs) gs s e ⊎ SomeReads ys gs s e
      go (inl x) = inl (inr x)
      go (inr y) = inr y

  -- one alternative, and then one of others
  with_each : (a : List (RightSide N)) (ys : List (List (RightSide N))) (gs : List (RightSide N)) (s m e : State) → Reads N P bytes a s m → SomeReads ys gs m e → SomeReads (each_with a ys) gs s e
  unfolding SomeReads
  with_each a [] gs s m e d h = absurd h
  with_each a (b ∷ ys) gs s m e d (inl r) = inl (subst (λ x. Reads N P bytes x s e) (sym (append_assoc a b gs)) (join N P bytes d r))
  with_each a (b ∷ ys) gs s m e d (inr h) = inr (with_each a ys gs s m e d h)

  from_each : (a : List (RightSide N)) (ys : List (List (RightSide N))) (gs : List (RightSide N)) (s e : State) → SomeReads (each_with a ys) gs s e → (m : State) × Reads N P bytes a s m × SomeReads ys gs m e
  unfolding SomeReads
  from_each a [] gs s e h = absurd h
  from_each a (b ∷ ys) gs s e (inl r) = let z = split N P bytes (subst (λ x. Reads N P bytes x s e) (append_assoc a b gs) r) a (b ++ gs) refl in (z.0, z.1, inl z.2)
  from_each a (b ∷ ys) gs s e (inr h) = let z = from_each a ys gs s e h in (z.0, z.1, inr z.2)

  pairs_read : (xs ys : List (List (RightSide N))) (h : RightSide N) (gs : List (RightSide N)) (s e : State) → ((m : State) → Reads N P bytes (h ∷ gs) m e → SomeReads ys gs m e) → SomeReads xs (h ∷ gs) s e → SomeReads (pairs xs ys) gs s e
  unfolding SomeReads
  pairs_read [] ys h gs s e f r = absurd r
  pairs_read (a ∷ xs) ys h gs s e f (inl d) = let z = split N P bytes d a (h ∷ gs) refl in some_left (each_with a ys) (pairs xs ys) gs s e (with_each a ys gs s z.0 e z.1 (f z.0 z.2))
  pairs_read (a ∷ xs) ys h gs s e f (inr r) = some_right (each_with a ys) (pairs xs ys) gs s e (pairs_read xs ys h gs s e f r)

  pairs_back : (xs ys : List (List (RightSide N))) (h : RightSide N) (gs : List (RightSide N)) (s e : State) → ((m : State) → SomeReads ys gs m e → Reads N P bytes (h ∷ gs) m e) → SomeReads (pairs xs ys) gs s e → SomeReads xs (h ∷ gs) s e
  unfolding SomeReads
  pairs_back [] ys h gs s e f r = absurd r
  pairs_back (a ∷ xs) ys h gs s e f r = go (pairs_back xs ys h gs s e f) (some_either (each_with a ys) (pairs xs ys) gs s e r)
    where
      go : (SomeReads (pairs xs ys) gs s e → SomeReads xs (h ∷ gs) s e) → SomeReads (each_with a ys) gs s e ⊎ SomeReads (pairs xs ys) gs s e → SomeReads (a ∷ xs) (h ∷ gs) s e
      go later (inl x) = let z = from_each a ys gs s e x in inl (join N P bytes z.1 (f z.0 z.2))
      go later (inr y) = inr (later y)

  Ahead : RightSide N → List (List (RightSide N)) → Type 0
  Ahead g xs = (gs : List (RightSide N)) (s e : State) → Reads N P bytes (g ∷ gs) s e → SomeReads xs gs s e

  Back : RightSide N → List (List (RightSide N)) → Type 0
  Back g xs = (gs : List (RightSide N)) (s e : State) → SomeReads xs gs s e → Reads N P bytes (g ∷ gs) s e

  ahead_with : (go : N → List (List (RightSide N))) → ((n : N) → Ahead (Call n) (go n)) → (g : RightSide N) → Ahead g (alternatives_with go g)
  unfolding SomeReads Ahead
  ahead_with go f (Do a) gs s e d = inl d
  ahead_with go f (Call n) gs s e d = f n gs s e d
  ahead_with go f Nothing gs s e (nothing d) = inl d
  ahead_with go f (Seq g h) gs s e (in_turn d) = pairs_read (alternatives_with go g) (alternatives_with go h) h gs s e (λ m. ahead_with go f h gs m e) (ahead_with go f g (h ∷ gs) s e d)
  ahead_with go f (Or g h) gs s e (left d) = some_left (alternatives_with go g) (alternatives_with go h) gs s e (ahead_with go f g gs s e d)
  ahead_with go f (Or g h) gs s e (right d) = some_right (alternatives_with go g) (alternatives_with go h) gs s e (ahead_with go f h gs s e d)
  ahead_with go f (Many g) gs s e d = inl d
  ahead_with go f (When a g h) gs s e d = inl d

  only : (g : RightSide N) (gs : List (RightSide N)) (s e : State) → SomeReads ((g ∷ []) ∷ []) gs s e → Reads N P bytes (g ∷ gs) s e
  unfolding SomeReads
  only g gs s e (inl d) = d
  only g gs s e (inr h) = absurd h

  back_with : (go : N → List (List (RightSide N))) → ((n : N) → Back (Call n) (go n)) → (g : RightSide N) → Back g (alternatives_with go g)
  unfolding SomeReads Back
  back_with go f (Do a) gs s e r = only (Do a) gs s e r
  back_with go f (Call n) gs s e r = f n gs s e r
  back_with go f Nothing gs s e (inl d) = nothing d
  back_with go f Nothing gs s e (inr h) = absurd h
  back_with go f (Seq g h) gs s e r = in_turn (back_with go f g (h ∷ gs) s e (pairs_back (alternatives_with go g) (alternatives_with go h) h gs s e (λ m. back_with go f h gs m e) r))
  back_with go f (Or g h) gs s e r = choose (back_with go f g gs s e) (back_with go f h gs s e) (some_either (alternatives_with go g) (alternatives_with go h) gs s e r)
    where
      choose : (SomeReads (alternatives_with go g) gs s e → Reads N P bytes (g ∷ gs) s e) → (SomeReads (alternatives_with go h) gs s e → Reads N P bytes (h ∷ gs) s e) → SomeReads (alternatives_with go g) gs s e ⊎ SomeReads (alternatives_with go h) gs s e → Reads N P bytes (Or g h ∷ gs) s e
      choose first second (inl x) = left (first x)
      choose first second (inr y) = right (second y)
  back_with go f (Many g) gs s e r = only (Many g) gs s e r
  back_with go f (When a g h) gs s e r = only (When a g h) gs s e r

  opened_ahead : (U : ℕ → N → Bool) (k : ℕ) (n : N) → Ahead (Call n) (opened P U k n)
  unfolding SomeReads Ahead
  opened_ahead U zero n = λ gs s e d. inl d
  opened_ahead U (suc k) n = go (opened_ahead U k) (U k n)
    where
      enter : ((m : N) → Ahead (Call m) (opened P U k m)) → Ahead (Call n) (alternatives_with (opened P U k) (P n))
      enter f gs s e (calls d) = ahead_with (opened P U k) f (P n) gs s e d

      go : ((m : N) → Ahead (Call m) (opened P U k m)) → (b : Bool) → Ahead (Call n) (elim b [ true ↦ alternatives_with (opened P U k) (P n) | false ↦ (Call n ∷ []) ∷ [] ])
      go f true gs s e d = enter f gs s e d
      go f false gs s e d = inl d

  opened_back : (U : ℕ → N → Bool) (k : ℕ) (n : N) → Back (Call n) (opened P U k n)
  unfolding SomeReads Back
  opened_back U zero n = only (Call n)
  opened_back U (suc k) n = go (opened_back U k) (U k n)
    where
      go : ((m : N) → Back (Call m) (opened P U k m)) → (b : Bool) → Back (Call n) (elim b [ true ↦ alternatives_with (opened P U k) (P n) | false ↦ (Call n ∷ []) ∷ [] ])
      go f true gs s e r = calls (back_with (opened P U k) f (P n) gs s e r)
      go f false gs s e r = only (Call n) gs s e r

  at_place : (k : ℕ) (x : List (RightSide N)) (ys : List (List (RightSide N))) (gs : List (RightSide N)) (s e : State) → nth_of k ys ≡ Some x → Reads N P bytes (x ++ gs) s e → SomeReads ys gs s e
  unfolding SomeReads
  at_place zero x [] gs s e q d = cc
  at_place (suc k) x [] gs s e q d = cc
  at_place zero x (y ∷ ys) gs s e q d = let same : x ≡ y = cc in inl (subst (λ z. Reads N P bytes (z ++ gs) s e) same d)
  at_place (suc k) x (y ∷ ys) gs s e q d = inr (at_place k x ys gs s e q d)

  moved : (ks : List ℕ) (xs ys : List (List (RightSide N))) (gs : List (RightSide N)) (s e : State) → at_places ks ys ≡ map Some xs → SomeReads xs gs s e → SomeReads ys gs s e
  unfolding SomeReads
  moved [] [] ys gs s e q h = absurd h
  moved [] (x ∷ xs) ys gs s e q h = cc
  moved (k ∷ ks) [] ys gs s e q h = cc
  moved (k ∷ ks) (x ∷ xs) ys gs s e q (inl d) = let here : nth_of k ys ≡ Some x = cc in at_place k x ys gs s e here d
  moved (k ∷ ks) (x ∷ xs) ys gs s e q (inr h) = let rest : at_places ks ys ≡ map Some xs = cc in moved ks xs ys gs s e rest h

  -- two right sides read the same where each alternative of either is one of the other
  pub same_alternatives : (U : ℕ → N → Bool) (k : ℕ) (g h : RightSide N) (ks ls : List ℕ) → at_places ks (alternatives P U k h) ≡ map Some (alternatives P U k g) → at_places ls (alternatives P U k g) ≡ map Some (alternatives P U k h) → (gs : List (RightSide N)) (s e : State) → Reads N P bytes (g ∷ gs) s e ↔ Reads N P bytes (h ∷ gs) s e
  unfolding Ahead Back
  same_alternatives U k g h ks ls there here gs s e = (
    λ d. back_with (opened P U k) (opened_back U k) h gs s e (moved ks (alternatives P U k g) (alternatives P U k h) gs s e there (ahead_with (opened P U k) (opened_ahead U k) g gs s e d)),
    λ d. back_with (opened P U k) (opened_back U k) g gs s e (moved ls (alternatives P U k h) (alternatives P U k g) gs s e here (ahead_with (opened P U k) (opened_ahead U k) h gs s e d)),
  )
