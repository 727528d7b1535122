-- What is read through a pointer and from a channel, as the code finds it. That it is what is asked: `SourceLemmas`.
use Rattle.std.specs.Prelude.{is_some, Option, Some, None, [], ◌∷◌, unwrap_or}
use Rattle.go_base.specs.declared.rule.Rule.{Rule}
use Rattle.go_term.specs.Types.{TypeData}
use Rattle.go_judge.specs.declared.outcome.Spot.TheVariants.{Whole}
use Rattle.go_judge.specs.declared.rec.Mode.{Mode}
use Rattle.go_judge.specs.declared.rec.Mode.TheVariants as M
use Rattle.go_judge.specs.Judged.{Asks, Broken, Found, OutcomeData, Waits}
use Rattle.go_judge.specs.Operands.{at_whole, type_or_none}
use Rattle.go_judge.specs.Records.{HeaderData, RecData}
use Rattle.go_judge.specs.Quests.{Asked, Decided, Lacks}
use Rattle.go_constructs.specs.Operators.Channels.{received_from}
use Rattle.go_constructs.specs.Operators.Constants.{value_record}
use Rattle.go_constructs.specs.Operators.Pointers.{base_of, under_operand}
use Rattle.go_constructs.specs.Operators.Rules.{no_pointer, no_receive}
use Rattle.go_ops.specs.declared.source.Source.{Source}
use Rattle.go_ops.specs.declared.source.Source.TheVariants.{Channel, Pointer}

-- the rule that is broken where nothing is read, what stands for a value that is read, and its type by an underlying
-- type
abbrev pub rule_of : Source → Rule
rule_of Pointer = no_pointer
rule_of Channel = no_receive

abbrev pub mode_of : Source → Mode
mode_of Pointer = M.Var
mode_of Channel = M.CommaOk

abbrev pub read_of : Source → Option TypeData → Option TypeData
read_of Pointer u = base_of u
read_of Channel u = received_from u

-- what is asked behind R1 and R2
abbrev pub read_asks : Source → RecData → Asks HeaderData RecData
read_asks source x = record {
  tests = at_whole (rule_of source) (under_operand x (λ u. is_some (read_of source u))) ∷ [];
  gives = under_operand x (λ u. value_record (mode_of source) (unwrap_or (read_of source u) (type_or_none x)) None);
}

-- by the type of what is read, where there is one; and by what an underlying type comes to
abbrev pub read_outcome : Source → Option TypeData → OutcomeData RecData
read_outcome source (Some t) = Found (value_record (mode_of source) t None)
read_outcome source None = Broken (rule_of source) (Whole ∷ [])

abbrev pub read_asked : Source → Asked (Option TypeData) → OutcomeData RecData
read_asked source (Decided u) = read_outcome source (read_of source u)
read_asked source (Lacks d) = Waits d
