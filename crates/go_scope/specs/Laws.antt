-- Declarations and scope (Go specification).
-- Says once more, as a relation, which region an occurrence denotes, and that it is the one of `resolution`;
-- and what stands in modules that are loaded: the scopes of a package answer exactly so for each identifier behind the
-- names of a spec; each import spec has a package that it names.
use Rattle.std.specs.Prelude.{◌≡◌, ◌↔◌, ℕ, true, Some, List, [], ◌∷◌, ◌++◌, filter, slice_get, Contains}
use Rattle.std.specs.List.{flat_map}
use Rattle.indexmap.specs.IndexMap.{get}
use Rattle.go_tree.specs.declared.node.NodeId.{NodeId}
use Rattle.go_tree.specs.Tree.{Tree, text_of}
use Rattle.go_base.specs.declared.ids.ObjId.{ObjId}
use Rattle.go_module.specs.declared.scopes.Scopes.{Scopes}
use Rattle.go_module.specs.Modules.Texts.{as_text}
use Rattle.go_module.specs.Modules.Heads.{IsImportPath, import_specs, import_string}
use Rattle.go_module.specs.Modules.Module.{FileData, PackageData, ModuleData, IsLoaded}
use Rattle.go_module.specs.Scopes.{same_node}
use Rattle.go_module.specs.Names.Imports.{known_in}
use Rattle.go_module.specs.Names.Tables.{HasTables, uses_of}
use Rattle.go_module.specs.declared.block.Occurrence.{Occurrence}
use Rattle.go_module.specs.declared.block.Region.{Region}
use Rattle.go_module.specs.Names.Blocks.{lies_inside}
use Rattle.go_module.specs.Names.Regions.{holds, resolution}

-- a region lies inside each of these
abbrev pub LiesInsideAll : Region → List Region → Type 0
LiesInsideAll r [] = Unit {0}
LiesInsideAll r (other ∷ others) = (lies_inside r.block other.block ≡ true) × LiesInsideAll r others

-- of the regions that hold the occurrence it is one, and it lies inside all others
pub record IsInnermost (regions : List Region) (o : Occurrence) (r : Region) : Type 0 where
  pub before : List Region
  pub after : List Region
  pub held : filter (holds o) regions ≡ before ++ r ∷ after
  pub inside : LiesInsideAll r (before ++ after)

abbrev pub DenotesInnermost : Type 0
DenotesInnermost = (regions : List Region) (o : Occurrence) (r : Region) → (resolution regions o ≡ Some r) ↔ IsInnermost regions o r

-- each identifier that occurs behind the names of the specs of a package of a module has one use, and the table of uses
-- has it
abbrev pub ResolvesExactly : Type 0
ResolvesExactly =
    (m : ModuleData) (k : ℕ) (p : PackageData) (scopes : Scopes)
    → IsLoaded m → slice_get m.packages k ≡ Some p → HasTables m k p scopes
    → (id : NodeId) (d : ObjId) → Contains (uses_of (known_in m) k p) (id, d) → get same_node scopes.uses id ≡ Some d

-- two lists stand side by side, each entry of the one so to that of the other
abbrev pub SideBySide : {X Y : Type 0} → (X → Y → Type 0) → List X → List Y → Type 0
SideBySide R [] [] = Unit {0}
SideBySide R [] (y ∷ ys) = ⊥
SideBySide R (x ∷ xs) [] = ⊥
SideBySide R (x ∷ xs) (y ∷ ys) = R x y × SideBySide R xs ys

-- the import spec names the package at a place of the module: its path is that of the package
pub record NamesPackage (m : ModuleData) (spec : Tree) (q : ℕ) : Type 0 where
  pub path : List ℕ
  pub is_path : IsImportPath (text_of (import_string spec)) path
  pub p : PackageData
  pub at : slice_get m.packages q ≡ Some p
  pub path_is : p.path ≡ as_text path

-- the import specs of a package's files stand beside its imports, each beside the package that it names
abbrev pub EachSpecIsNamed : Type 0
EachSpecIsNamed =
    (m : ModuleData) (k : ℕ) (p : PackageData) → IsLoaded m → slice_get m.packages k ≡ Some p
    → SideBySide (NamesPackage m) (flat_map (λ (f : FileData). import_specs f.tree) p.files) p.imports
