-- What the end of the tokens makes of the first right side that is to be read.
use Rattle.std.proofs.Common.{◌≡◌, ℕ, Bool, true, false, MatchBool, List, [], ◌∷◌, None, Some, refl, sym, ◌∙◌, cond}
use Rattle.go_tree.specs.declared.token.Token.{Token}
use Rattle.go_tree.specs.declared.production.Production.{Production}
use Rattle.go_tree.specs.Grammar.RightSide.{RightSide, Do, Call, Nothing, Seq, Or, Many, When, Act, Ahead, OneOf, Both}
use Rattle.go_tree.specs.Grammar.Trees.Reading.{State, OpenNode, at_end, does, calls, nothing, in_turn, left, right, done, again, chosen, passed_by, acted, looks, next_start}
use Rattle.go_tree.specs.Grammar.Tables.Prediction.{AllDecided, is_empty}
use Rattle.go_tree.specs.Grammar.Trees.Sentence.{production, tables, ReadsGo}
use Rattle.go_tree.proofs.EmptyLemmas.{empty_parts, empty_read}
use Rattle.go_tree.proofs.PredictionLemmas.{open_act, call_decided}
use Rattle.go_tree.proofs.GrammarLemmas.{tables_right}
use Rattle.go_parse_x.specs.Machine.Turns.{at, IsSameAtEnd}
use Rattle.go_parse_x.specs.Machine.Ends.{IsEnding, IsFinished}

-- what is read where no token is left can be empty
first_empty : (bytes : List ℕ) (g : RightSide Production) (gs : List (RightSide Production)) (s e : State) → s.rest ≡ [] → ReadsGo bytes (g ∷ gs) s e → is_empty tables g ≡ true
first_empty bytes g gs s e q r = (empty_parts Production tables g gs (empty_read Production production bytes tables tables_right r q)).0

no_token : (a : Ahead) → looks a [] ≡ false
no_token (OneOf kinds) = refl
no_token (Both i j) = refl

module _ (bytes : List ℕ) (last : ℕ) (gs : List (RightSide Production)) (fs : List OpenNode) where
  pub call_ends : (n : Production) → IsSameAtEnd bytes last (Call n ∷ gs) (production n ∷ gs) fs fs
  call_ends n = record { there = λ e r. inside r; back = λ e r. calls r; decided = call_decided Production production [] tables tables_right n gs }
    where
      inside : {s e : State} → ReadsGo bytes (Call n ∷ gs) s e → ReadsGo bytes (production n ∷ gs) s e
      inside (calls d) = d

  pub nothing_ends : IsSameAtEnd bytes last (Nothing ∷ gs) gs fs fs
  nothing_ends = record { there = λ e r. inside r; back = λ e r. nothing r; decided = λ d. d.1 }
    where
      inside : {s e : State} → ReadsGo bytes (Nothing ∷ gs) s e → ReadsGo bytes gs s e
      inside (nothing d) = d

  pub seq_ends : (g h : RightSide Production) → IsSameAtEnd bytes last (Seq g h ∷ gs) (g ∷ h ∷ gs) fs fs
  seq_ends g h = record { there = λ e r. inside r; back = λ e r. in_turn r; decided = λ d. (d.0.0, (d.0.1, d.1)) }
    where
      inside : {s e : State} → ReadsGo bytes (Seq g h ∷ gs) s e → ReadsGo bytes (g ∷ h ∷ gs) s e
      inside (in_turn d) = d

  left_ends : (g h : RightSide Production) → AllDecided tables (Or g h ∷ gs) → is_empty tables g ≡ true → IsSameAtEnd bytes last (Or g h ∷ gs) (g ∷ gs) fs fs
  left_ends g h ok q = record { there = λ e r. inside (at last [] fs) e refl r; back = λ e r. left r; decided = λ d. (d.0.0, d.1) }
    where
      inside : (s e : State) → s.rest ≡ [] → ReadsGo bytes (Or g h ∷ gs) s e → ReadsGo bytes (g ∷ gs) s e
      inside s e z (left d) = d
      inside s e z (right d) = absurd (ok.0.3 q (first_empty bytes h gs s e z d))

  right_ends : (g h : RightSide Production) → is_empty tables g ≡ false → IsSameAtEnd bytes last (Or g h ∷ gs) (h ∷ gs) fs fs
  right_ends g h q = record { there = λ e r. inside (at last [] fs) e refl r; back = λ e r. right r; decided = λ d. (d.0.1, d.1) }
    where
      inside : (s e : State) → s.rest ≡ [] → ReadsGo bytes (Or g h ∷ gs) s e → ReadsGo bytes (h ∷ gs) s e
      inside s e z (left d) = absurd (let y = sym q ∙ first_empty bytes g gs s e z d in cc)
      inside s e z (right d) = d

  -- one of two: the first where it can be empty
  pub or_ends : (g h : RightSide Production) → AllDecided tables (Or g h ∷ gs) → IsSameAtEnd bytes last (Or g h ∷ gs) (cond (is_empty tables g) g h ∷ gs) fs fs
  or_ends g h ok = go (is_empty tables g) refl
    where
      go : (b : Bool) → is_empty tables g ≡ b → IsSameAtEnd bytes last (Or g h ∷ gs) (cond b g h ∷ gs) fs fs
      go true q = left_ends g h ok q
      go false q = right_ends g h q

  -- what repeats is not empty
  pub many_ends : (g : RightSide Production) → AllDecided tables (Many g ∷ gs) → IsSameAtEnd bytes last (Many g ∷ gs) gs fs fs
  many_ends g ok = record { there = λ e r. inside (at last [] fs) e refl r; back = λ e r. done r; decided = λ d. d.1 }
    where
      inside : (s e : State) → s.rest ≡ [] → ReadsGo bytes (Many g ∷ gs) s e → ReadsGo bytes gs s e
      inside s e z (done d) = d
      inside s e z (again d) = absurd (let y = sym ok.0.2 ∙ first_empty bytes g (Many g ∷ gs) s e z d in cc)

  -- no token is as is asked
  pub when_ends : (a : Ahead) (g h : RightSide Production) → IsSameAtEnd bytes last (When a g h ∷ gs) (h ∷ gs) fs fs
  when_ends a g h = record { there = λ e r. inside (at last [] fs) e refl r; back = λ e r. passed_by (no_token a) r; decided = λ d. (d.0.1, d.1) }
    where
      none : (s : State) → s.rest ≡ [] → looks a s.rest ≡ false
      none s z = rw z (no_token a)

      inside : (s e : State) → s.rest ≡ [] → ReadsGo bytes (When a g h ∷ gs) s e → ReadsGo bytes (h ∷ gs) s e
      inside s e z (chosen w d) = absurd (let y = sym (none s z) ∙ w in cc)
      inside s e z (passed_by w d) = d

  act_goes : (a : Act) (es : List OpenNode) → acted bytes a (at last [] fs) ≡ Some (at last [] es) → IsSameAtEnd bytes last (Do a ∷ gs) gs fs es
  act_goes a es q = record { there = λ e r. open_act Production production bytes tables tables_right q r; back = λ e r. does q r; decided = λ d. d.1 }

  act_never : (a : Act) → acted bytes a (at last [] fs) ≡ None → (e : State) → ReadsGo bytes (Do a ∷ gs) (at last [] fs) e → ⊥
  act_never a q e r = stopped (at last [] fs) e q r
    where
      stopped : (s e : State) → acted bytes a s ≡ None → ReadsGo bytes (Do a ∷ gs) s e → ⊥
      stopped s e h (does k d) = cc

  -- an act is possible, or not, as where tokens are left
  pub act_ending : (a : Act) (es : List OpenNode) (goes : Bool) → MatchBool goes ((ts : List Token) → next_start last ts ≡ last → acted bytes a (at last ts fs) ≡ Some (at last ts es)) ((ts : List Token) → acted bytes a (at last ts fs) ≡ None) → IsEnding bytes last goes (Do a ∷ gs) gs fs es
  act_ending a es true h = act_goes a es (h [] refl)
  act_ending a es false h = act_never a (h [])

-- with nothing left, all was read
pub end_whole : (bytes : List ℕ) (last : ℕ) (gs : List (RightSide Production)) (fs es : List OpenNode) → IsSameAtEnd bytes last gs [] fs es → IsFinished bytes last true gs fs es
end_whole bytes last gs fs es x = x.back (at last [] es) at_end
