-- Operands (Go specification).
-- Decides what is asked of an expression in parentheses: its part is the operand, and has its record.
use Rattle.std.specs.Prelude.{[]}
use Rattle.go_judge.specs.Judged.{Construct}
use Rattle.go_judge.specs.Operands.{of_one}
use Rattle.go_judge.specs.Records.{HeaderData, RecData}
use Rattle.go_judge.specs.Quests.{Done}

abbrev pub parentheses : Construct HeaderData RecData
parentheses = of_one (λ x. record { tests = []; gives = Done x })
