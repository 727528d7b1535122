-- Pointer types; Struct types (Go specification).
-- Decides what is asked of `*x`, whose operand is a type x, and of the type `*E` of an embedded field, whose operand is E.
-- Where a value or a length is written, `*x` can be an indirection, which is not built yet: phase 2 refuses its form there.
use Rattle.std.specs.Prelude.{[], ◌∷◌}
use Rattle.go_term.specs.Types as types
use Rattle.go_term.specs.Types.{pointer}
use Rattle.go_judge.specs.Limits.{makes_of}
use Rattle.go_judge.specs.Judged.{Construct}
use Rattle.go_judge.specs.Operands.{of_one, type_or_none}
use Rattle.go_judge.specs.Records.{HeaderData, RecData}

abbrev pub pointer_to : Construct HeaderData RecData
pointer_to = of_one (λ x. makes_of (x ∷ []) (types.of_one pointer (type_or_none x)))
