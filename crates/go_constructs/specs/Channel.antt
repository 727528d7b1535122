-- Channel types (Go specification).
-- Decides what is asked of `chan T`, `chan<- T` and `<-chan T`, whose operand is the element type.
use Rattle.std.specs.Prelude.{[], ◌∷◌}
use Rattle.go_term.specs.declared.term.Dir.{Dir}
use Rattle.go_term.specs.Types as types
use Rattle.go_judge.specs.Limits.{makes_of}
use Rattle.go_judge.specs.Judged.{Construct}
use Rattle.go_judge.specs.Operands.{of_one, type_or_none}
use Rattle.go_judge.specs.Records.{HeaderData, RecData}

abbrev pub channel : Dir → Construct HeaderData RecData
channel dir = of_one (λ x. makes_of (x ∷ []) (types.of_one (types.channel dir) (type_or_none x)))
