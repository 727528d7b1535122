-- Declarations and scope; Qualified identifiers (Go specification).
-- Decides what the tables of a package's scopes hold: its objects, the object that each occurrence denotes,
-- the number of each iota, and the names of its block.
use Rattle.std.specs.Prelude.{◌≡◌, ℕ, ◌+◌, List, [], ◌∷◌, ◌++◌, map, Option, Some, None, slice_get}
use Rattle.std.specs.List.{flat_map}
use Rattle.std.specs.Option.{option_map_or}
use Rattle.indexmap.specs.IndexMap.{insert_all}
use Rattle.go_tree.specs.declared.node.NodeId.{NodeId}
use Rattle.go_module.specs.declared.block.Occurrence.{Occurrence}
use Rattle.go_module.specs.declared.block.Region.{Region}
use Rattle.go_module.specs.declared.block.Selected.{Selected}
use Rattle.go_base.specs.declared.ids.ObjId.{ObjId}
use Rattle.go_module.specs.declared.object.Object.{Object}
use Rattle.go_module.specs.declared.scopes.Scopes.{Scopes}
use Rattle.go_module.specs.Modules.Module.{FileData, PackageData, ModuleData}
use Rattle.go_module.specs.Scopes.{same_node, same_object}
use Rattle.go_module.specs.Names.Rules.BrokenNames.{broken_names}
use Rattle.go_module.specs.Names.Iotas.{iotas_of}
use Rattle.go_module.specs.Names.Imports.{PackageNames, file_block, imports_of, known_in}
use Rattle.go_module.specs.Names.PackageBlock.{names_of, object_id, package_block, region_entries}
use Rattle.go_module.specs.Names.Universe.{universe}
use Rattle.go_module.specs.Names.Rules.OccurrenceRules.{denoted_package}
use Rattle.go_module.specs.Names.Occurrences.{occurrences_in_file}
use Rattle.go_module.specs.Names.Regions.{regions_of, resolution}

-- the occurrences in the files, of which the first has this place
abbrev pub occurrences_from : ℕ → List FileData → List Occurrence
occurrences_from file [] = []
occurrences_from file (f ∷ files) = occurrences_in_file file f.tree ++ occurrences_from (file + 1) files

-- the object of a qualified identifier, with the identifier's node
pub record Member : Type 0 where
  pub id : NodeId
  pub object : Object

abbrev pub member_of : (ℕ → PackageNames) → Option ℕ → Option Selected → List Member
member_of known (Some k) (Some s) = option_map_or (λ object. record { id = s.id; object = object } ∷ []) ((known k).exported s.name) []
member_of known (Some k) None = []
member_of known None selected = []

-- "A qualified identifier accesses an identifier in a different package": what stands behind the `.` where a
-- package name stands before it
abbrev pub members_at : (ℕ → PackageNames) → List Region → Occurrence → List Member
members_at known regions o = member_of known (denoted_package regions o) o.selected

-- the object that an occurrence denotes, and that of the qualified identifier which it begins
abbrev pub uses_at : (ℕ → PackageNames) → List Region → Occurrence → List (NodeId × ObjId)
uses_at known regions o =
    option_map_or (λ r. (o.id, object_id r.object) ∷ []) (resolution regions o) []
    ++ map (λ member. (member.id, object_id member.object)) (members_at known regions o)

-- each identifier that denotes an object, by its node, with the object's number, in source order
abbrev pub uses_of : (ℕ → PackageNames) → ℕ → PackageData → List (NodeId × ObjId)
uses_of known k p = flat_map (uses_at known (regions_of known k p)) (occurrences_from 0 p.files)

-- the regions of the universe block and of the blocks of files
abbrev pub outer_regions : (ℕ → PackageNames) → ℕ → PackageData → List Region
outer_regions known k p = universe ++ flat_map (file_block known) (imports_of k p)

abbrev pub members_of : (ℕ → PackageNames) → ℕ → PackageData → List Member
members_of known k p = flat_map (members_at known (regions_of known k p)) (occurrences_from 0 p.files)

-- the objects of the universe and of imports, those of qualified identifiers, and last those of the package: by its own
-- numbers its own objects are found
abbrev pub objects_in : (ℕ → PackageNames) → ℕ → PackageData → List (ObjId × Object)
objects_in known k p =
    region_entries (outer_regions known k p)
    ++ (map (λ member. (object_id member.object, member.object)) (members_of known k p) ++ region_entries (package_block k p))

-- the tables have each key once, in the order in which they are first seen
pub record HasTables (m : ModuleData) (k : ℕ) (p : PackageData) (scopes : Scopes) : Type 0 where
  pub objects : scopes.objects.entries ≡ insert_all same_object [] (objects_in (known_in m) k p)
  pub uses : scopes.uses.entries ≡ insert_all same_node [] (uses_of (known_in m) k p)
  pub iotas : scopes.iotas.entries ≡ insert_all same_node [] (iotas_of p)
  pub methods : scopes.methods.entries ≡ []
  pub names : scopes.names.entries ≡ names_of (package_block k p)

-- the scopes of the package at a place of the module, whose names break no rule
pub record IsScopesOf (m : ModuleData) (k : ℕ) (scopes : Scopes) : Type 0 where
  pub p : PackageData
  pub at : slice_get m.packages k ≡ Some p
  pub sound : broken_names (known_in m) k p ≡ []
  pub tables : HasTables m k p scopes
