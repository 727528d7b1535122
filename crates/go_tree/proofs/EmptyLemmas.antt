-- What is read where no token is left can be empty.
use Rattle.std.proofs.Common.{◌≡◌, ℕ, Bool, true, false, List, [], ◌∷◌, refl, ap, ◌∙◌, cond, None, Some, ◌||◌, ◌&&◌}
use Rattle.std.proofs.lemmas.Bool.{and_parts}
use Rattle.go_tree.specs.Grammar.RightSide.{RightSide, Act, Pass, Open, Reopen, Adopt, CheckType, Close}
use Rattle.go_tree.specs.Grammar.Trees.Reading.{State, Reads, at_end, does, calls, nothing, in_turn, left, right, done, again, chosen, passed_by, acted, passed, ends_in_type}
use Rattle.go_tree.specs.Grammar.Tables.Prediction.{Tables, act_is_empty, is_empty, AreRight}

-- all of these can be empty
abbrev pub series_empty : {N : Type 0} → Tables N → List (RightSide N) → Bool
series_empty T [] = true
series_empty T (g ∷ gs) = is_empty T g && series_empty T gs

pub empty_parts : (N : Type 0) (T : Tables N) (g : RightSide N) (gs : List (RightSide N)) → series_empty T (g ∷ gs) ≡ true → (is_empty T g ≡ true) × (series_empty T gs ≡ true)
empty_parts N T g gs h = and_parts (is_empty T g) (series_empty T gs) h

checked_rest : (b : Bool) (s m : State) → cond b (Some s) None ≡ Some m → m.rest ≡ s.rest
checked_rest true s m h = cc
checked_rest false s m h = cc

-- an act that passes no token leaves the tokens
pub rest_kept : (bytes : List ℕ) (a : Act) (s m : State) → act_is_empty a ≡ true → acted bytes a s ≡ Some m → m.rest ≡ s.rest
rest_kept bytes (Pass k) s m e h = cc
rest_kept bytes Open s m e h = cc
rest_kept bytes Reopen s m e h = cc
rest_kept bytes Adopt s m e h = cc
rest_kept bytes CheckType s m e h = checked_rest (ends_in_type s.open_nodes) s m h
rest_kept bytes (Close k) s m e h = cc

of_call : (a b c : Bool) → (a ≡ true → b ≡ true) → (a && c) ≡ true → (b && c) ≡ true
of_call true b c f h = rw (f refl) h
of_call false b c f h = cc

of_three : (a b c : Bool) → (a && (b && c)) ≡ true → ((a && b) && c) ≡ true
of_three true b c h = h
of_three false b c h = cc

of_left : (a b c : Bool) → (a && c) ≡ true → ((a || b) && c) ≡ true
of_left true b c h = h
of_left false b c h = cc

of_right : (a b c : Bool) → (b && c) ≡ true → ((a || b) && c) ≡ true
of_right true true c h = h
of_right true false c h = cc
of_right false b c h = h

module _ (N : Type 0) (P : N → RightSide N) (bytes : List ℕ) (T : Tables N) (right_tables : AreRight N P T) where
  act_at_end : (a : Act) (s m : State) → s.rest ≡ [] → acted bytes a s ≡ Some m → (act_is_empty a ≡ true) × (m.rest ≡ [])
  act_at_end (Pass k) s m r h = absurd (let q = ap (λ x. passed k x s.open_nodes) r in cc)
  act_at_end Open s m r h = (refl, rest_kept bytes Open s m refl h ∙ r)
  act_at_end Reopen s m r h = (refl, rest_kept bytes Reopen s m refl h ∙ r)
  act_at_end Adopt s m r h = (refl, rest_kept bytes Adopt s m refl h ∙ r)
  act_at_end CheckType s m r h = (refl, rest_kept bytes CheckType s m refl h ∙ r)
  act_at_end (Close k) s m r h = (refl, rest_kept bytes (Close k) s m refl h ∙ r)

  pub empty_read : {gs : List (RightSide N)} {s e : State} → Reads N P bytes gs s e → s.rest ≡ [] → series_empty T gs ≡ true
  empty_read at_end r = refl
  empty_read (does {a = a} {s = s} {m = m} h d) r = let x = act_at_end a s m r h in rw x.0 (empty_read d x.1)
  empty_read (calls {n = n} {gs = gs} d) r = of_call (is_empty T (P n)) (T.empty n) (series_empty T gs) (right_tables.empty n) (empty_read d r)
  empty_read (nothing d) r = empty_read d r
  empty_read (in_turn {g = g} {h = h} {gs = gs} d) r = of_three (is_empty T g) (is_empty T h) (series_empty T gs) (empty_read d r)
  empty_read (left {g = g} {h = h} {gs = gs} d) r = of_left (is_empty T g) (is_empty T h) (series_empty T gs) (empty_read d r)
  empty_read (right {g = g} {h = h} {gs = gs} d) r = of_right (is_empty T g) (is_empty T h) (series_empty T gs) (empty_read d r)
  empty_read (chosen {g = g} {h = h} {gs = gs} w d) r = of_left (is_empty T g) (is_empty T h) (series_empty T gs) (empty_read d r)
  empty_read (passed_by {g = g} {h = h} {gs = gs} w d) r = of_right (is_empty T g) (is_empty T h) (series_empty T gs) (empty_read d r)
  empty_read (done d) r = empty_read d r
  empty_read (again {g = g} {gs = gs} d) r = (and_parts (is_empty T g) (series_empty T gs) (empty_read d r)).1
