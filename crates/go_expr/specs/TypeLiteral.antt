-- Type literals, as the code finds them.
use Rattle.std.specs.Prelude.{ℕ, Bool, Option, Some, None, List, [], ◌∷◌, map}
use Rattle.std.specs.List.{AllByRecursion}
use Rattle.go_term.specs.Types as types
use Rattle.go_term.specs.Types.{Head, TypeData, channel, pointer, slice}
use Rattle.go_term.specs.declared.term.Term.{Term}
use Rattle.go_judge.specs.declared.outcome.Spot.TheVariants.{Part}
use Rattle.go_judge.specs.Kinds.{no_length}
use Rattle.go_judge.specs.Limits.{makes_of, within_limits}
use Rattle.go_judge.specs.Judged as outcomes
use Rattle.go_judge.specs.Judged.{Construct, OutcomeData, tested}
use Rattle.go_judge.specs.Operands.{are_types, of_all, of_one, type_or_none}
use Rattle.go_judge.specs.Records.{HeaderData, RecData, type_record}
use Rattle.go_judge.specs.View.{outcome_as}
use Rattle.go_judge.specs.Headers.{Headers}
use Rattle.go_judge.specs.Types.Own.{IsOwnOutcome}
use Rattle.go_judge.specs.Quests.{Asked, Decided, Done, Lacks}
use Rattle.go_constructs.specs.Operators.Operations.{is_integer}
use Rattle.go_constructs.specs.declared.sort.Sort.{Sort}
use Rattle.go_ops.specs.Refusals.{by_part}
use Rattle.go_expr.specs.declared.one_type.OneForm.{OneForm}
use Rattle.go_expr.specs.declared.one_type.OneForm.TheVariants.{Chan, Pointer, Slice}
use Rattle.go_expr.specs.declared.typed.Typed.{Typed}
use Rattle.go_expr.specs.declared.typed.Typed.TheVariants.{Types, Without}

-- what a node comes to that stands for this type, where nothing else is asked
abbrev pub type_outcome : Headers → TypeData → OutcomeData RecData
type_outcome headers type = tested headers (within_limits type) (Done (type_record type))

-- what stands at a type with one part
abbrev pub head_of : OneForm → Head
head_of Pointer = pointer
head_of Slice = slice
head_of (Chan dir) = channel dir

-- a type literal with one operand
abbrev pub one_literal : OneForm → Construct HeaderData RecData
one_literal form = of_one (λ x. makes_of (x ∷ []) (types.of_one (head_of form) (type_or_none x)))

-- an array type of this length with one element type; by whether its length is of integer type; and by the sort of that
abbrev pub element_outcome : Headers → ℕ → RecData → OutcomeData RecData
element_outcome headers n x =
    tested headers (are_types 1 (x ∷ []) ∷ within_limits (types.of_one (types.array n) (type_or_none x)))
    (Done (type_record (types.of_one (types.array n) (type_or_none x))))

abbrev pub length_outcome : Headers → ℕ → Bool → RecData → OutcomeData RecData
length_outcome headers n is x = by_part no_length (Part 0) is (element_outcome headers n x)

abbrev pub sort_outcome : Headers → ℕ → Asked Sort → RecData → OutcomeData RecData
sort_outcome headers n (Decided s) x = length_outcome headers n (is_integer s) x
sort_outcome headers n (Lacks d) x = outcomes.Waits d

-- by the constant that its length is, where it is one
abbrev pub array_outcome : Headers → Option ℕ → Asked Sort → RecData → OutcomeData RecData
array_outcome headers (Some n) sort x = sort_outcome headers n sort x
array_outcome headers None sort x = outcomes.Broken no_length (Part 0 ∷ [])

-- a type literal that is made of the types of all of so many operands
abbrev pub literal_of_all : ℕ → (List TypeData → TypeData) → Construct HeaderData RecData
literal_of_all many make = of_all many (λ rs. makes_of rs (make (map type_or_none rs)))

-- what it comes to by what the code has of its operands
abbrev pub typed_outcome : (Term → TypeData) → Headers → (List TypeData → TypeData) → Typed → OutcomeData RecData
typed_outcome tree headers make (Types ts) = type_outcome headers (make (map tree ts.items))
typed_outcome tree headers make (Without outcome) = outcome_as tree outcome

abbrev pub IsOwnTyped : (Term → Type 0) → Typed → Type 0
IsOwnTyped own (Types ts) = AllByRecursion own ts.items
IsOwnTyped own (Without outcome) = IsOwnOutcome own outcome
