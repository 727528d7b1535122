-- What the outcomes of the program stand for.
use Rattle.go_term.specs.Types.{TypeData}
use Rattle.go_term.specs.View.{type_of}
use Rattle.go_term.specs.declared.term.Term.{Term}
use Rattle.go_judge.specs.declared.outcome.Outcome.{Outcome}
use Rattle.go_judge.specs.declared.outcome.Outcome.TheVariants.{Broken, Found, Nothing, Waits}
use Rattle.go_judge.specs.Judged as outcomes
use Rattle.go_judge.specs.Judged.{OutcomeData}
use Rattle.go_judge.specs.Records.{RecData, rec_as}

-- where a type stands for what `tree` says
abbrev pub outcome_as : (Term → TypeData) → Outcome → OutcomeData RecData
outcome_as tree (Found rec) = outcomes.Found (rec_as tree rec)
outcome_as tree (Broken rule spots) = outcomes.Broken rule spots.items
outcome_as tree (Waits d) = outcomes.Waits d.0
outcome_as tree Nothing = outcomes.Nothing

-- and where a type stands for the term that it is
abbrev pub outcome_view : Outcome → OutcomeData RecData
outcome_view outcome = outcome_as type_of outcome
