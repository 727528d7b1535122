-- Laws of the objects that reports name.
-- Says that each object which an identifier denotes has a place.
use Rattle.std.specs.Prelude.{◌≡◌, ℕ, ◌⊎◌, true, Some, Contains, IsSome, slice_get}
use Rattle.std.specs.Map.{lookup}
use Rattle.go_base.specs.declared.ids.ObjId.{ObjId}
use Rattle.go_tree.specs.declared.node.NodeId.{NodeId}
use Rattle.go_module.specs.Modules.Module.{ModuleData, PackageData}
use Rattle.go_module.specs.Names.Imports.{known_in}
use Rattle.go_module.specs.Names.Tables.{uses_of}
use Rattle.go_module.specs.Scopes.{same_object}
use Rattle.go_judge.specs.Headers.{is_predeclared}
use Rattle.go_report.specs.Outline.{outline_of}

-- a universe name, or an object whose declaration the outline of the module has
abbrev pub IsDeclared : ModuleData → ObjId → Type 0
IsDeclared m d = (is_predeclared d ≡ true) ⊎ IsSome (lookup (same_object d) (outline_of m).declared)

-- each object that an identifier of a package denotes is one
abbrev pub DeclaredEverywhere : ModuleData → Type 0
DeclaredEverywhere m =
    (k : ℕ) (p : PackageData) → slice_get m.packages k ≡ Some p
    → (id : NodeId) (d : ObjId) → Contains (uses_of (known_in m) k p) (id, d) → IsDeclared m d
