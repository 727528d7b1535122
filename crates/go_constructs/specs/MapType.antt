-- Map types (Go specification).
-- Decides what is asked of `map[K]V`, whose operands are its key type and its element type. Whether keys compare is not
-- asked yet.
use Rattle.std.specs.Prelude.{[], ◌∷◌}
use Rattle.go_term.specs.Types as types
use Rattle.go_term.specs.Types.{map_type}
use Rattle.go_judge.specs.Limits.{makes_of}
use Rattle.go_judge.specs.Judged.{Construct}
use Rattle.go_judge.specs.Operands.{of_two, type_or_none}
use Rattle.go_judge.specs.Records.{HeaderData, RecData}

abbrev pub map_of : Construct HeaderData RecData
map_of = of_two (λ k v. makes_of (k ∷ (v ∷ [])) (types.of_two map_type (type_or_none k) (type_or_none v)))
