-- Constants; Constant expressions (Go specification).
-- Decides what is asked of a constant that an operation gives, and the record that an operation has. "The values of
-- typed constants must always be accurately representable by values of the constant type."
use Rattle.std.specs.Prelude.{Option, Some, None, List, [], ◌∷◌, ℤ}
use Rattle.go_num.specs.declared.value.Value.{Value}
use Rattle.go_term.specs.Types.{TypeData}
use Rattle.go_judge.specs.declared.rec.Mode.{Mode}
use Rattle.go_judge.specs.declared.rec.Mode.TheVariants as M
use Rattle.go_judge.specs.Limits.{wide_integer}
use Rattle.go_judge.specs.Judged.{RuleTest}
use Rattle.go_judge.specs.Operands.{at_whole}
use Rattle.go_judge.specs.Records.{HeaderData, RecData}
use Rattle.go_judge.specs.Quests.{Done, Quest, then_ask}
use Rattle.go_constructs.specs.Operators.Representable.{not_long, not_overflows, not_unkept, not_wide}
use Rattle.go_constructs.specs.Operators.Rules.{constant_overflow, long_text, unkept_float}
use Rattle.go_constructs.specs.declared.fit.Fit.{Fit}

-- the value of a constant
abbrev pub constant_in : RecData → Option Value
constant_in r = by r.mode r.value
  where
    by : Mode → Option Value → Option Value
    by M.Const value = value
    by mode value = None

-- the tests of R8, U9, L2 and L3 on what an operation gives, by how it fits
abbrev pub overflow_test : Quest HeaderData Fit → RuleTest HeaderData
overflow_test fit = at_whole constant_overflow (then_ask fit (λ f. Done (not_overflows f)))

abbrev pub unkept_test : Quest HeaderData Fit → RuleTest HeaderData
unkept_test fit = at_whole unkept_float (then_ask fit (λ f. Done (not_unkept f)))

abbrev pub wide_test : Quest HeaderData Fit → RuleTest HeaderData
wide_test fit = at_whole wide_integer (then_ask fit (λ f. Done (not_wide f)))

abbrev pub long_test : Quest HeaderData Fit → RuleTest HeaderData
long_test fit = at_whole long_text (then_ask fit (λ f. Done (not_long f)))

-- all of them; a constant of another kind than its type has been excluded by the rules before
abbrev pub limit_tests : Quest HeaderData Fit → List (RuleTest HeaderData)
limit_tests fit = overflow_test fit ∷ (unkept_test fit ∷ (wide_test fit ∷ (long_test fit ∷ [])))

-- a constant, and a value that is none, of this type; the latter with its span
abbrev pub constant_record : TypeData → Value → RecData
constant_record type v = record { mode = M.Const; type = Some type; value = Some v; object = None; span = None }

abbrev pub value_record : Mode → TypeData → Option (ℤ × ℤ) → RecData
value_record mode type span = record { mode = mode; type = Some type; value = None; object = None; span = span }

abbrev pub record_of : TypeData → Option Value → Option (ℤ × ℤ) → RecData
record_of type (Some v) span = constant_record type v
record_of type None span = value_record M.Value type span
