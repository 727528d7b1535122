-- Declarations and scope; Iota (Go specification).
-- Decides what is known of the identifiers of each package of a module, by tables.
use Rattle.std.specs.Prelude.{ℕ, List, []}
use Rattle.std.specs.Map.{lookup}
use Rattle.go_base.specs.declared.ids.ObjId.{ObjId}
use Rattle.go_tree.specs.declared.node.NodeId.{NodeId}
use Rattle.go_module.specs.declared.object.Object.{Object}
use Rattle.go_module.specs.IndexMap.{insert_all}
use Rattle.go_module.specs.Modules.Module.{ModuleData, PackageData}
use Rattle.go_module.specs.Names.Imports.{known_in}
use Rattle.go_module.specs.Names.Iotas.{iotas_of}
use Rattle.go_module.specs.Names.Tables.{objects_in, uses_of}
use Rattle.go_module.specs.Scopes.{same_node, same_object}
use Rattle.go_judge.specs.Naming.{Naming}

-- by tables, in the package of this path
abbrev pub names_by : List (NodeId × ObjId) → List (NodeId × ℕ) → List (ObjId × Object) → List ℕ → Naming
names_by uses iotas objects home = record {
  denotes = λ id. lookup (same_node (record { 0 = id })) uses;
  iota = λ id. lookup (same_node (record { 0 = id })) iotas;
  objects = λ d. lookup (same_object (record { 0 = d })) objects;
  home = home;
}

-- the object that each identifier of the package at a place denotes, by the identifier's node, and the objects
abbrev pub uses_table : ModuleData → ℕ → PackageData → List (NodeId × ObjId)
uses_table m k p = insert_all same_node [] (uses_of (known_in m) k p)

-- the number of each identifier `iota` in its constant specs
abbrev pub iotas_table : PackageData → List (NodeId × ℕ)
iotas_table p = insert_all same_node [] (iotas_of p)

abbrev pub objects_table : ModuleData → ℕ → PackageData → List (ObjId × Object)
objects_table m k p = insert_all same_object [] (objects_in (known_in m) k p)

-- what is known of the identifiers of the package at a place
abbrev pub names_in : ModuleData → ℕ → PackageData → Naming
names_in m k p = names_by (uses_table m k p) (iotas_table p) (objects_table m k p) p.path
