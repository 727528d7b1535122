-- What is still to be read where no token is left: whether all of it can end there.
use Rattle.std.specs.Prelude.{ℕ, Bool, true, false, List, []}
use Rattle.go_tree.specs.declared.production.Production.{Production}
use Rattle.go_tree.specs.Grammar.RightSide.{RightSide}
use Rattle.go_tree.specs.Grammar.Trees.Reading.{State, OpenNode}
use Rattle.go_tree.specs.Grammar.Trees.Sentence.{ReadsGo}
use Rattle.go_parse_x.specs.Machine.Turns.{at, IsSameAtEnd}

-- what the end makes of the next right side
abbrev pub IsEnding : List ℕ → ℕ → Bool → List (RightSide Production) → List (RightSide Production) → List OpenNode → List OpenNode → Type 0
IsEnding bytes last true gs hs fs es = IsSameAtEnd bytes last gs hs fs es
IsEnding bytes last false gs hs fs es = (e : State) → ReadsGo bytes gs (at last [] fs) e → ⊥

-- what it makes of all of them
abbrev pub IsFinished : List ℕ → ℕ → Bool → List (RightSide Production) → List OpenNode → List OpenNode → Type 0
IsFinished bytes last true gs fs es = ReadsGo bytes gs (at last [] fs) (at last [] es)
IsFinished bytes last false gs fs es = (e : State) → ReadsGo bytes gs (at last [] fs) e → ⊥
