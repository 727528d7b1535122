-- Types are asked for inside brackets alone in the grammar: by computation.
use Rattle.std.proofs.Common.{◌≡◌, ℕ, true, false, List, [], ◌∷◌, Some}
use Rattle.go_tree.specs.declared.token.Token.{Token}
use Rattle.go_tree.specs.declared.production.Production.{Production}
use Rattle.go_tree.specs.Grammar.RightSide.{RightSide, Call}
use Rattle.go_tree.specs.Grammar.Tables.Prediction.{expand}
use Rattle.go_tree.specs.Grammar.Trees.Sentence.{production, tables, can_be_empty}
use Rattle.go_tree.proofs.EmptyLemmas.{series_empty}
use Rattle.go_tree.specs.Grammar.Tables.Brackets.{Level, through_all, standing}
use Rattle.go_tree.proofs.BracketLemmas.{Keeps, is_closing, through_expand, empty_level, level_start}
use Rattle.go_tree.proofs.ByProduction.{by_production}
use Rattle.std.specs.Bool.{MatchBool}
use Rattle.std.proofs.lemmas.Bool.{MatchBool-at_true}

standing_kept : (n : Production) → Keeps standing (standing n) (production n)
standing_kept = by_production _ assumption

empty_checked : (n : Production) → MatchBool (can_be_empty n) (is_closing (standing n) ≡ false) (Unit {0})
empty_checked = by_production _ assumption

empty_stays : (n : Production) → can_be_empty n ≡ true → is_closing (standing n) ≡ false
empty_stays n h = MatchBool-at_true _ _ h (empty_checked n)

-- an expansion leaves as many brackets open
pub brackets_expand : (g : RightSide Production) (gs : List (RightSide Production)) (t : Token) (ts : List Token) (l m : ℕ) → through_all standing (g ∷ gs) l ≡ Some m → through_all standing (expand production tables t ts g gs) l ≡ Some m
brackets_expand g gs t ts l m h = through_expand Production production tables standing standing_kept g gs t ts l m h

-- what can be empty leaves as many open
pub brackets_empty : (gs : List (RightSide Production)) (l m : ℕ) → series_empty tables gs ≡ true → through_all standing gs l ≡ Some m → m ≡ l
brackets_empty gs l m e h = empty_level Production production tables standing standing_kept empty_stays gs l m e h

-- a reading begins with none open, and ends so
pub brackets_start : (n : Production) → standing n ≡ Level → through_all standing (Call n ∷ []) 0 ≡ Some 0
brackets_start n q = level_start Production standing n q
