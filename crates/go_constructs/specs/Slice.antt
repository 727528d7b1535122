-- Slice types (Go specification).
-- Decides what is asked of `[]T`, whose operand is its element type.
use Rattle.std.specs.Prelude.{[], ◌∷◌}
use Rattle.go_term.specs.Types as types
use Rattle.go_judge.specs.Limits.{makes_of}
use Rattle.go_judge.specs.Judged.{Construct}
use Rattle.go_judge.specs.Operands.{of_one, type_or_none}
use Rattle.go_judge.specs.Records.{HeaderData, RecData}

abbrev pub slice : Construct HeaderData RecData
slice = of_one (λ x. makes_of (x ∷ []) (types.of_one types.slice (type_or_none x)))
