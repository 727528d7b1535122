-- Array types (Go specification).
-- Decides what is asked of `[n]T`, whose operands are its length and its element type: C12 of the length.
use Rattle.std.specs.Prelude.{ℕ, ℤ, pos, negsuc, ◌^◌, nat_lt, Bool, false, is_some, if◌then◌else◌, [], ◌∷◌, Option, Some, None, unwrap_or}
use Rattle.go_num.specs.declared.value.Value.{Value}
use Rattle.go_num.specs.declared.value.Value.TheVariants.{Int}
use Rattle.go_term.specs.Types as types
use Rattle.go_judge.specs.Kinds.{no_length}
use Rattle.go_judge.specs.Limits.{makes}
use Rattle.go_judge.specs.declared.outcome.Spot.TheVariants.{Part}
use Rattle.go_judge.specs.Judged.{Construct}
use Rattle.go_judge.specs.Operands.{are_types, of_two, type_or_none}
use Rattle.go_judge.specs.Quests.{Done, Quest}
use Rattle.go_judge.specs.Records.{HeaderData, RecData}
use Rattle.go_constructs.specs.Operators.Constants.{constant_in}
use Rattle.go_constructs.specs.Operators.Operations.{is_integer}
use Rattle.go_constructs.specs.Operators.Sorts.{by_sort}

-- "it must evaluate to a non-negative constant representable by a value of type int", which has 64 bits (own)
abbrev pub length_of : ℤ → Option ℕ
length_of (pos n) = if nat_lt n (2 ^ 63) then Some n else None
length_of (negsuc n) = None

abbrev pub length_by : Option Value → Option ℕ
length_by (Some (Int v)) = length_of v
length_by v = None

abbrev pub length_in : RecData → Option ℕ
length_in r = length_by (constant_in r)

-- the constant is one of an integer type, or an untyped one
abbrev pub is_length : RecData → Quest HeaderData Bool
is_length r = if is_some (length_in r) then by_sort r is_integer else Done false

abbrev pub array : Construct HeaderData RecData
array = of_two (λ n x.
    makes (record { rule = no_length; spots = record { spot = Part 0; holds = is_length n } ∷ [] } ∷ (are_types 1 (x ∷ []) ∷ []))
    (types.of_one (types.array (unwrap_or (length_in n) 0)) (type_or_none x)))
