-- What a walker of the program has.
use Rattle.std.specs.Prelude.{ℕ, IfSome, Option}
use Rattle.std.specs.Map.{lookup}
use Rattle.std.specs.Option.{option_map}
use Rattle.go_term.specs.Types.{TypeData}
use Rattle.go_term.specs.View.{type_of}
use Rattle.go_term.specs.declared.term.Term.{Term}
use Rattle.go_module.specs.Scopes.{same_node}
use Rattle.go_judge.specs.declared.outcome.Outcome.{Outcome}
use Rattle.go_judge.specs.View.{outcome_as}
use Rattle.go_judge.specs.Headers.{Outcomes}
use Rattle.go_judge.specs.Types.Own.{IsOwnOutcome}
use Rattle.go_expr.specs.declared.walker.Walker.{Walker as OwnWalker}

-- the outcome that a walk left for a node, by the node's number
abbrev pub outcome_in : OwnWalker → ℕ → Option Outcome
outcome_in walker n = lookup (same_node (record { 0 = n })) walker.table.entries

-- what the walker has for each node, where types stand for these; and where a type stands for the term that it is
abbrev pub outcomes_as : (Term → TypeData) → OwnWalker → Outcomes
outcomes_as tree walker n = option_map (outcome_as tree) (outcome_in walker n)

abbrev pub outcomes_view : OwnWalker → Outcomes
outcomes_view walker n = outcomes_as type_of walker n

-- the types of each outcome are of these
abbrev pub AreOwnOutcomes : (Term → Type 0) → OwnWalker → Type 0
AreOwnOutcomes own walker = (n : ℕ) → IfSome (outcome_in walker n) (IsOwnOutcome own)
