-- Function types (Go specification).
-- Decides what is asked of `func(x T) R` with this signature, which has so many operands: the types that stand directly in it.
use Rattle.std.specs.Prelude.{ℕ, map}
use Rattle.go_tree.specs.Tree.{Tree}
use Rattle.go_term.specs.Types as types
use Rattle.go_term.specs.Types.{made}
use Rattle.go_judge.specs.Limits.{makes_of}
use Rattle.go_judge.specs.Judged.{Construct}
use Rattle.go_judge.specs.Operands.{of_all, type_or_none}
use Rattle.go_judge.specs.Records.{HeaderData, RecData}
use Rattle.go_constructs.specs.Signatures.{is_variadic, types_in}

abbrev pub function : ℕ → Tree → Construct HeaderData RecData
function many signature = of_all many
    (λ rs. makes_of rs (made (types.function (is_variadic signature)) (types_in signature (map type_or_none rs))))
