-- Interface types, as the code finds them.
use Rattle.std.specs.Prelude.{Bool, false, Option}
use Rattle.go_term.specs.Types.{TypeData}
use Rattle.go_constructs.specs.Operators.Operations.{is_interface}
use Rattle.go_constructs.specs.Operators.Sorts.{sort_found}
use Rattle.go_judge.specs.Quests.{Asked, Decided, Lacks}

-- what an underlying type comes to is an interface
abbrev pub is_interface_form : Asked (Option TypeData) → Bool
is_interface_form (Decided found) = is_interface (sort_found found)
is_interface_form (Lacks d) = false
