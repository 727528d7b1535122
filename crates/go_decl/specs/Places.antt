-- The places of objects among declarations.
use Rattle.std.specs.Prelude.{◌≡◌, ℕ, position, List, Option}
use Rattle.std.specs.Map.{lookup}
use Rattle.go_base.specs.declared.ids.ObjId.{ObjId}
use Rattle.go_module.specs.Names.Declarations.{Declaration, numbers_of}
use Rattle.go_module.specs.Scopes.{same_object}

-- the place of the first of these objects that is that one
abbrev pub place_among : List ObjId → ObjId → Option ℕ
place_among numbers d = position (same_object d) numbers

-- the place that an object has by entries
abbrev pub placed_by : List (ObjId × ℕ) → ObjId → Option ℕ
placed_by entries d = lookup (same_object d) entries

-- entries are the places of declarations by their numbers: of several with one number that of the first
abbrev pub ArePlaces : List Declaration → List (ObjId × ℕ) → Type 0
ArePlaces declarations entries = (d : ObjId) → placed_by entries d ≡ place_among (numbers_of declarations) d
