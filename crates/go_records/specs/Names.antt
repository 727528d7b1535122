-- The objects that types are written by, found by their numbers.
use Rattle.std.specs.Prelude.{◌≡◌, ℕ, List, find, slice_get}
use Rattle.std.specs.Map.{lookup}
use Rattle.std.specs.Option.{option_and_then}
use Rattle.go_base.specs.declared.ids.ObjId.{ObjId}
use Rattle.go_module.specs.Scopes.{same_object}
use Rattle.go_report.specs.declared.lines.NamedObject.{NamedObject}

-- own: the place that entries have for a number leads to the first of these objects of the number; where no object has
-- it, to none
abbrev pub ArePlaces : List NamedObject → List (ObjId × ℕ) → Type 0
ArePlaces objects entries =
    (d : ObjId) → option_and_then (slice_get objects) (lookup (same_object d) entries)
    ≡ find (λ n. same_object d n.object) objects
