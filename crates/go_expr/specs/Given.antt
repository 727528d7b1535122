-- What the code has of a node's operands: their records, and the types that they stand for.
use Rattle.std.specs.Prelude.{ℕ, ◌+◌, Option, Some, None, List, [], ◌∷◌, ◌++◌, map}
use Rattle.std.specs.Borrow.{Bor}
use Rattle.std.specs.List.{AllByRecursion, flat_map, range_with_len}
use Rattle.go_term.specs.Types.{TypeData}
use Rattle.go_term.specs.declared.term.Term.{Term}
use Rattle.go_judge.specs.declared.outcome.Outcome.{Outcome}
use Rattle.go_judge.specs.declared.outcome.Spot.{Spot}
use Rattle.go_judge.specs.declared.outcome.Spot.TheVariants.{Part}
use Rattle.go_judge.specs.declared.rec.Mode.{Mode}
use Rattle.go_judge.specs.declared.rec.Mode.TheVariants.{IsType}
use Rattle.go_judge.specs.declared.rec.Rec.{Rec}
use Rattle.go_judge.specs.Judged as outcomes
use Rattle.go_judge.specs.Judged.{Operands, OutcomeData, outcome_at}
use Rattle.go_judge.specs.Records.{RecData, rec_as, type_in}
use Rattle.go_judge.specs.View.{outcome_as}
use Rattle.go_judge.specs.Types.Own.{IsOwnRec}
use Rattle.go_expr.specs.declared.given.Given.{Given}
use Rattle.go_expr.specs.declared.given.Given.TheVariants.{All, First, Gone}

-- the outcomes of so many operands, the first
abbrev pub first_outcomes : (Term → TypeData) → List Outcome → ℕ → List (OutcomeData RecData)
first_outcomes tree xs many = map (outcome_at (map (outcome_as tree) xs)) (range_with_len 0 many)

abbrev pub recs_as : (Term → TypeData) → List (Bor Rec) → List RecData
recs_as tree recs = map (λ rec. rec_as tree rec.now) recs

abbrev pub AreOwnRecs : (Term → Type 0) → List (Bor Rec) → Type 0
AreOwnRecs own recs = AllByRecursion (λ rec. IsOwnRec own rec.now) recs

abbrev pub given_as : (Term → TypeData) → Given → Operands RecData
given_as tree (All recs) = outcomes.All (recs_as tree recs.items)
given_as tree (First d) = outcomes.First d.0
given_as tree Gone = outcomes.Gone

abbrev pub IsOwnGiven : (Term → Type 0) → Given → Type 0
IsOwnGiven own (All recs) = AreOwnRecs own recs.items
IsOwnGiven own (First d) = Unit {0}
IsOwnGiven own Gone = Unit {0}

-- what one more operand makes of those before it
abbrev pub with_one : Operands RecData → OutcomeData RecData → Operands RecData
with_one (outcomes.All rs) (outcomes.Found r) = outcomes.All (rs ++ r ∷ [])
with_one (outcomes.All rs) (outcomes.Waits d) = outcomes.First d
with_one (outcomes.First d) (outcomes.Found r) = outcomes.First d
with_one (outcomes.First d) (outcomes.Waits e) = outcomes.First d
with_one rs x = outcomes.Gone

-- TYPES

-- the term of the type that a record stands for, where it stands for one
abbrev pub term_by : Mode → Option Term → Option Term
term_by IsType term = term
term_by mode term = None

abbrev pub term_in : Rec → Option Term
term_in rec = term_by rec.mode rec.ty

abbrev pub spot_if_none : Spot → Option TypeData → List Spot
spot_if_none spot (Some t) = []
spot_if_none spot None = spot ∷ []

-- the places of those that are no type, of which the first has this place
abbrev pub no_type_spots : ℕ → List RecData → List Spot
no_type_spots place [] = []
no_type_spots place (r ∷ rs) = spot_if_none (Part place) (type_in r) ++ no_type_spots (place + 1) rs

abbrev pub one_or_none : Option TypeData → List TypeData
one_or_none (Some t) = t ∷ []
one_or_none None = []

-- the types that these stand for
abbrev pub types_among : List RecData → List TypeData
types_among rs = flat_map (λ r. one_or_none (type_in r)) rs
