-- Arithmetic operators; Logical operators (Go specification).
-- What `+x`, `-x`, `^x` and `!x` come to behind the tests on the operand, by the sort of its type, as the code finds it
-- (own). That the tests of the operators come to the same: `SignLemmas`.
use Rattle.std.specs.Prelude.{Option, None, List, ◌∷◌}
use Rattle.go_num.specs.declared.value.Value.{Value}
use Rattle.go_judge.specs.Judged.{Asks, OutcomeData, RuleTest, Waits}
use Rattle.go_judge.specs.Operands.{at_whole, type_or_none}
use Rattle.go_judge.specs.Records.{HeaderData, RecData}
use Rattle.go_judge.specs.Quests.{Asked, Decided, Lacks, Quest}
use Rattle.go_constructs.specs.Operators.Constants.{constant_in, limit_tests}
use Rattle.go_ops.specs.Limited.{limited_outcome}
use Rattle.go_constructs.specs.Operators.Operations.{fit_found}
use Rattle.go_ops.specs.Refusals.{by_whole}
use Rattle.go_constructs.specs.Operators.Rules.{undefined_unary}
use Rattle.go_constructs.specs.Operators.Sorts.{by_sort}
use Rattle.go_constructs.specs.Operators.Unary.{is_signed_by, of_value, sign, sign_fit, signed_value}
use Rattle.go_constructs.specs.declared.fit.Fit.{Fit}
use Rattle.go_constructs.specs.declared.fit.Fit.TheVariants.{Fits}
use Rattle.go_constructs.specs.declared.operator.Sign.{Sign}
use Rattle.go_constructs.specs.declared.sort.Sort.{Sort}

-- the tests behind those on the operand, and the record
abbrev pub sign_tests : Sign → RecData → List (RuleTest HeaderData)
sign_tests op x = at_whole undefined_unary (by_sort x (is_signed_by op)) ∷ limit_tests (sign_fit op x)

abbrev pub sign_gives : Sign → RecData → Quest HeaderData RecData
sign_gives op x = (sign op x).gives

abbrev pub sign_asks : Sign → RecData → Asks HeaderData RecData
sign_asks op x = record { tests = sign_tests op x; gives = sign_gives op x }

-- the value that a constant gives, and how it fits an operand of this sort
abbrev pub value_of_one : Sign → Sort → Option Value → Option Value
value_of_one op s v = of_value None (signed_value op s) v

abbrev pub fit_of_one : Sign → Sort → Option Value → Fit
fit_of_one op s v = of_value Fits (λ v. fit_found (signed_value op s v) s) v

-- an operand of this sort, on which the operator is defined: what it comes to
abbrev pub defined_outcome : Sign → RecData → Sort → OutcomeData RecData
defined_outcome op x s = limited_outcome (type_or_none x) x.span (fit_of_one op s (constant_in x)) (value_of_one op s (constant_in x))

-- by the sort of its type
abbrev pub outcome_by_operand : Sign → RecData → Asked Sort → OutcomeData RecData
outcome_by_operand op x (Decided s) = by_whole undefined_unary (is_signed_by op s) (defined_outcome op x s)
outcome_by_operand op x (Lacks d) = Waits d
