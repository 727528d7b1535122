-- What the code finds of rules that are asked of operands: the outcome of a node that breaks one, and nothing where
-- they hold.
use Rattle.std.specs.Prelude.{Bool, true, false, Option, Some, None, List, [], ◌∷◌, IfSome, unwrap_or}
use Rattle.std.specs.Option.{option_map}
use Rattle.go_base.specs.declared.rule.Rule.{Rule}
use Rattle.go_term.specs.Types.{TypeData}
use Rattle.go_term.specs.declared.term.Term.{Term}
use Rattle.go_judge.specs.declared.outcome.Outcome.{Outcome}
use Rattle.go_judge.specs.declared.outcome.Spot.{Spot}
use Rattle.go_judge.specs.declared.outcome.Spot.TheVariants.{Part, Whole}
use Rattle.go_judge.specs.Kinds.{no_value}
use Rattle.go_judge.specs.Judged.{Broken, OutcomeData}
use Rattle.go_judge.specs.Operands.{is_value}
use Rattle.go_judge.specs.Records.{RecData}
use Rattle.go_judge.specs.View.{outcome_as}
use Rattle.go_judge.specs.Types.Own.{IsOwnOutcome}
use Rattle.go_constructs.specs.Operators.Matching.{is_single_type}
use Rattle.go_constructs.specs.Operators.Rules.{several_values}

-- a rule that is asked of the node as a whole, of its operand at a place, and of its first two: what comes later where
-- it holds
abbrev pub by_whole : {R : Type 0} → Rule → Bool → OutcomeData R → OutcomeData R
by_whole rule true later = later
by_whole rule false later = Broken rule (Whole ∷ [])

abbrev pub by_part : {R : Type 0} → Rule → Spot → Bool → OutcomeData R → OutcomeData R
by_part rule spot true later = later
by_part rule spot false later = Broken rule (spot ∷ [])

-- the places of two operands where the answer is No
abbrev pub spots_of_two : Bool → Bool → List Spot
spots_of_two true true = []
spots_of_two true false = Part 1 ∷ []
spots_of_two false true = Part 0 ∷ []
spots_of_two false false = Part 0 ∷ (Part 1 ∷ [])

abbrev pub by_two : {R : Type 0} → Rule → Bool → Bool → OutcomeData R → OutcomeData R
by_two rule true true later = later
by_two rule first second later = Broken rule (spots_of_two first second)

-- OPERANDS

-- what the program has of operands that are refused
abbrev pub refusal_as : (Term → TypeData) → Option Outcome → Option (OutcomeData RecData)
refusal_as tree refused = option_map (outcome_as tree) refused

abbrev pub IsOwnRefusal : (Term → Type 0) → Option Outcome → Type 0
IsOwnRefusal own refused = IfSome refused (IsOwnOutcome own)

-- the outcome by which operands are refused, or what comes later
abbrev pub or_later : Option (OutcomeData RecData) → OutcomeData RecData → OutcomeData RecData
or_later refused later = unwrap_or refused later

-- a node with one operand, by whether R1, and whether R2 holds of it
abbrev pub refused_one : Bool → Bool → Option (OutcomeData RecData)
refused_one true true = None
refused_one true false = Some (Broken several_values (Part 0 ∷ []))
refused_one false single = Some (Broken no_value (Part 0 ∷ []))

abbrev pub one_refused : RecData → Option (OutcomeData RecData)
one_refused x = refused_one (is_value x) (is_single_type x.type)

-- and with two, where R2 is asked, and by R1 before
abbrev pub several_refused : Bool → Bool → Option (OutcomeData RecData)
several_refused true true = None
several_refused first second = Some (Broken several_values (spots_of_two first second))

abbrev pub refused_two : Bool → Bool → Option (OutcomeData RecData) → Option (OutcomeData RecData)
refused_two true true several = several
refused_two first second several = Some (Broken no_value (spots_of_two first second))

abbrev pub two_refused : RecData → RecData → Option (OutcomeData RecData)
two_refused x y = refused_two (is_value x) (is_value y) (several_refused (is_single_type x.type) (is_single_type y.type))
