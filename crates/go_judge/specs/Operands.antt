-- Constructs by their operands, and what is asked of operands.
use Rattle.std.specs.Prelude.{ℕ, ◌+◌, Bool, true, false, is_some, Option, Some, None, List, [], ◌∷◌, unwrap_or}
use Rattle.std.specs.List.{range_with_len}
use Rattle.go_base.specs.declared.rule.Rule.{Rule}
use Rattle.go_term.specs.Types.{TypeData, list, of_list}
use Rattle.go_judge.specs.declared.outcome.Spot.TheVariants.{Part, Whole}
use Rattle.go_judge.specs.declared.rec.Mode.{Mode}
use Rattle.go_judge.specs.declared.rec.Mode.TheVariants.{Builtin, Const, IsType, NoValue}
use Rattle.go_judge.specs.Quests.{Done, Quest}
use Rattle.go_judge.specs.Kinds.{no_type, no_value}
use Rattle.go_judge.specs.Judged.{Asks, Construct, RuleTest, SpotTest}
use Rattle.go_judge.specs.Records.{HeaderData, RecData, type_in}

-- a rule that is asked of the node as a whole
abbrev pub at_whole : {H : Type 0} → Rule → Quest H Bool → RuleTest H
at_whole rule holds = record { rule = rule; spots = record { spot = Whole; holds = holds } ∷ [] }

-- a rule that is asked of each of these operands, of which the first has this place
abbrev pub spots_from : {H R : Type 0} → (R → Bool) → ℕ → List R → List (SpotTest H)
spots_from holds place [] = []
spots_from holds place (r ∷ rs) = record { spot = Part place; holds = Done (holds r) } ∷ spots_from holds (place + 1) rs

abbrev pub at_each : {H R : Type 0} → Rule → (R → Bool) → ℕ → List R → RuleTest H
at_each rule holds place rs = record { rule = rule; spots = spots_from holds place rs }

-- VALUES AND TYPES

abbrev pub is_constant_mode : Mode → Bool
is_constant_mode Const = true
is_constant_mode mode = false

abbrev pub is_value_mode : Mode → Bool
is_value_mode NoValue = false
is_value_mode Builtin = false
is_value_mode IsType = false
is_value_mode mode = true

abbrev pub is_type : RecData → Bool
is_type r = is_some (type_in r)

abbrev pub is_constant : RecData → Bool
is_constant r = is_constant_mode r.mode

abbrev pub is_value : RecData → Bool
is_value r = is_value_mode r.mode

-- R1, C13: a value, a type stands at each of these operands, of which the first has this place
abbrev pub are_values : {H : Type 0} → ℕ → List RecData → RuleTest H
are_values place rs = at_each no_value is_value place rs

abbrev pub are_types : {H : Type 0} → ℕ → List RecData → RuleTest H
are_types place rs = at_each no_type is_type place rs

-- the type of an operand, and nothing that is a type where it has none
abbrev pub type_or_none : RecData → TypeData
type_or_none r = unwrap_or r.type (of_list list [])

-- CONSTRUCTS

abbrev pub none_asks : {H R : Type 0} → Asks H R → List R → Option (Asks H R)
none_asks asks [] = Some asks
none_asks asks rs = None

abbrev pub one_asks : {H R : Type 0} → (R → Asks H R) → List R → Option (Asks H R)
one_asks asks (a ∷ []) = Some (asks a)
one_asks asks rs = None

abbrev pub two_ask : {H R : Type 0} → (R → R → Asks H R) → List R → Option (Asks H R)
two_ask asks (x ∷ (y ∷ [])) = Some (asks x y)
two_ask asks rs = None

-- a node without operands; one with its first operand, with its first two, and with all
abbrev pub leaf : {H R : Type 0} → Asks H R → Construct H R
leaf asks = record { operands = []; asks = none_asks asks }

abbrev pub of_one : {H R : Type 0} → (R → Asks H R) → Construct H R
of_one asks = record { operands = 0 ∷ []; asks = one_asks asks }

abbrev pub of_two : {H R : Type 0} → (R → R → Asks H R) → Construct H R
of_two asks = record { operands = 0 ∷ (1 ∷ []); asks = two_ask asks }

abbrev pub of_all : {H R : Type 0} → ℕ → (List R → Asks H R) → Construct H R
of_all many asks = record { operands = range_with_len 0 many; asks = λ rs. Some (asks rs) }

-- a node that is no expression or type that is built, or denotes nothing that has a record
abbrev pub no_construct : {H R : Type 0} → Construct H R
no_construct = record { operands = []; asks = λ rs. None }
