-- What a map of headers of the program has.
use Rattle.std.specs.Prelude.{ℕ, IfSome, Option}
use Rattle.std.specs.Map.{lookup}
use Rattle.std.specs.Option.{option_map}
use Rattle.go_term.specs.Types.{TypeData}
use Rattle.go_term.specs.View.{type_of}
use Rattle.go_term.specs.declared.term.Term.{Term}
use Rattle.go_module.specs.Scopes.{same_object}
use Rattle.go_judge.specs.declared.header.Header.{Header}
use Rattle.go_judge.specs.declared.headers.Headers.{Headers as HeaderMap}
use Rattle.go_judge.specs.Records.{header_as}
use Rattle.go_judge.specs.Headers.{Headers}
use Rattle.go_judge.specs.Types.Own.{IsOwnHeader}

-- the header of a declaration, by its number
abbrev pub header_in : HeaderMap → ℕ → Option Header
header_in headers d = lookup (same_object (record { 0 = d })) headers.table.entries

-- what the map has for each declaration, where a type stands for what `tree` says; and where it stands for the term that it
-- is
abbrev pub headers_as : (Term → TypeData) → HeaderMap → Headers
headers_as tree headers d = option_map (header_as tree) (header_in headers d)

abbrev pub headers_view : HeaderMap → Headers
headers_view headers d = headers_as type_of headers d

-- the types of each header are of these
abbrev pub AreOwnHeaders : (Term → Type 0) → HeaderMap → Type 0
AreOwnHeaders own headers = (d : ℕ) → IfSome (header_in headers d) (IsOwnHeader own)
