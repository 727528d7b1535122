-- Reading by computation, for examples: each token picks the way.
use Rattle.std.proofs.Common.{◌≡◌, ℕ, zero, suc, List, [], ◌∷◌, refl, Option, None, Some, subst, sym, ◌∙◌}
use Rattle.go_tree.specs.declared.token.Token.{Token}
use Rattle.go_tree.specs.Grammar.RightSide.{RightSide, Do, Act}
use Rattle.go_tree.specs.Grammar.Trees.Reading.{State, Reads, at_end, does, acted}
use Rattle.go_tree.specs.Grammar.Tables.Prediction.{Tables, AreRight, AllDecided, expand}
use Rattle.go_tree.proofs.PredictionLemmas.{expand_back, expand_reads, expand_decided, open_act}

-- what came of it: the state at the end, no way on, or too few steps
pub data Outcome : Type 0 where
  Whole : State → Outcome
  Stuck : Outcome
  Short : Outcome

module _ (N : Type 0) (P : N → RightSide N) (bytes : List ℕ) (T : Tables N) (right_tables : AreRight N P T) where
  abbrev with_next : (List (RightSide N) → State → Outcome) → RightSide N → List (RightSide N) → State → List Token → Outcome
  with_next go g gs s [] = Short
  with_next go g gs s (t ∷ ts) = go (expand P T t ts g gs) s

  abbrev after_act : (List (RightSide N) → State → Outcome) → List (RightSide N) → Option State → Outcome
  after_act go gs None = Stuck
  after_act go gs (Some m) = go gs m

  abbrev at_the_end : State → List Token → Outcome
  at_the_end s [] = Whole s
  at_the_end s (t ∷ ts) = Stuck

  abbrev pub run : ℕ → List (RightSide N) → State → Outcome
  run zero gs s = Short
  run (suc n) [] s = at_the_end s s.rest
  run (suc n) (Do a ∷ gs) s = after_act (run n) gs (acted bytes a s)
  run (suc n) (g ∷ gs) s = with_next (run n) g gs s s.rest

  abbrev Ahead : (List (RightSide N) → State → Outcome) → State → Type 0
  Ahead go e = (gs : List (RightSide N)) (s : State) → go gs s ≡ Whole e → Reads N P bytes gs s e

  by_act : (a : Act) (gs : List (RightSide N)) (s e : State) (go : List (RightSide N) → State → Outcome) → Ahead go e → (o : Option State) → acted bytes a s ≡ o → after_act go gs o ≡ Whole e → Reads N P bytes (Do a ∷ gs) s e
  by_act a gs s e go so None q h = cc
  by_act a gs s e go so (Some m) q h = does q (so gs m h)

  by_next : (g : RightSide N) (gs : List (RightSide N)) (s e : State) (go : List (RightSide N) → State → Outcome) → Ahead go e → (r : List Token) → s.rest ≡ r → with_next go g gs s r ≡ Whole e → Reads N P bytes (g ∷ gs) s e
  by_next g gs s e go so [] q h = cc
  by_next g gs s e go so (t ∷ ts) q h = expand_back N P bytes T right_tables g gs s e t ts q (so (expand P T t ts g gs) s h)

  ended : (s e : State) (r : List Token) → at_the_end s r ≡ Whole e → Reads N P bytes [] s e
  ended s e [] h = let q : s ≡ e = cc in subst (λ x. Reads N P bytes [] s x) q at_end
  ended s e (t ∷ ts) h = cc

  pub run_reads : (n : ℕ) (gs : List (RightSide N)) (s e : State) → run n gs s ≡ Whole e → Reads N P bytes gs s e
  run_reads zero gs s e h = cc
  run_reads (suc n) [] s e h = ended s e s.rest h
  run_reads (suc n) (Do a ∷ gs) s e h = by_act a gs s e (run n) (λ gs s. run_reads n gs s e) (acted bytes a s) refl h
  run_reads (suc n) (g ∷ gs) s e h = by_next g gs s e (run n) (λ gs s. run_reads n gs s e) s.rest refl h

  -- nothing is read where the run is stuck
  abbrev Never : List (RightSide N) → State → Type 0
  Never gs s = (e : State) → Reads N P bytes gs s e → e.rest ≡ [] → ⊥

  abbrev Refuses : (List (RightSide N) → State → Outcome) → Type 0
  Refuses go = (gs : List (RightSide N)) (s : State) → AllDecided T gs → go gs s ≡ Stuck → Never gs s

  act_refused : (a : Act) (gs : List (RightSide N)) (s : State) (go : List (RightSide N) → State → Outcome) → Refuses go → AllDecided T gs → (o : Option State) → acted bytes a s ≡ o → after_act go gs o ≡ Stuck → Never (Do a ∷ gs) s
  act_refused a gs s go so ok None q h e (does k d) z = let y = sym q ∙ k in cc
  act_refused a gs s go so ok (Some m) q h e d z = so gs m ok h e (open_act N P bytes T right_tables q d) z

  next_refused : (g : RightSide N) (gs : List (RightSide N)) (s : State) (go : List (RightSide N) → State → Outcome) → Refuses go → AllDecided T (g ∷ gs) → (r : List Token) → s.rest ≡ r → with_next go g gs s r ≡ Stuck → Never (g ∷ gs) s
  next_refused g gs s go so ok [] q h e d z = cc
  next_refused g gs s go so ok (t ∷ ts) q h e d z = so (expand P T t ts g gs) s (expand_decided N P bytes T right_tables g gs t ts ok) h e (expand_reads N P bytes T right_tables d t ts ok.0 q z) z

  end_refused : (s : State) (r : List Token) → s.rest ≡ r → at_the_end s r ≡ Stuck → Never [] s
  end_refused s [] q h e d z = cc
  end_refused s (t ∷ ts) q h e at_end z = let y = sym q ∙ z in cc

  pub run_stuck : (n : ℕ) (gs : List (RightSide N)) (s : State) → AllDecided T gs → run n gs s ≡ Stuck → Never gs s
  run_stuck zero gs s ok h = cc
  run_stuck (suc n) [] s ok h = end_refused s s.rest refl h
  run_stuck (suc n) (Do a ∷ gs) s ok h = act_refused a gs s (run n) (run_stuck n) ok.1 (acted bytes a s) refl h
  run_stuck (suc n) (g ∷ gs) s ok h = next_refused g gs s (run n) (run_stuck n) ok s.rest refl h
