-- Declarations and scope; Blocks (Go specification).
-- Decides which objects the block of a package has. "The scope of an identifier denoting a constant, type, variable, or
-- function (but not method) declared at top level (outside any function) is the package block."
use Rattle.std.specs.Prelude.{ℕ, Bool, not, List, [], map, filter, None}
use Rattle.go_tree.specs.Tree.{id_of, start_of}
use Rattle.indexmap.specs.IndexMap.{insert_all}
use Rattle.go_base.specs.declared.ids.ObjId.{ObjId}
use Rattle.go_module.specs.declared.block.Region.{Region}
use Rattle.go_module.specs.declared.block.Block.TheVariants.{Package}
use Rattle.go_module.specs.declared.object.Object.{Object}
use Rattle.go_module.specs.Modules.Module.{PackageData}
use Rattle.go_module.specs.Modules.Paths.{same_text}
use Rattle.go_module.specs.Names.Declarations.{Declaration, declarations_of, name_text}
use Rattle.go_module.specs.Names.Exported.{is_blank_identifier}
use Rattle.go_module.specs.Scopes.{same_object}

-- what a declaration of the package at a place of the module makes
abbrev pub declared_object : ℕ → Declaration → Object
declared_object k d = record { name = name_text d.name; kind = d.kind; at = record { 0 = id_of d.name }; «package» = k; params = 0 }

abbrev pub declared_region : ℕ → Declaration → Region
declared_region k d = record {
  block = Package;
  object = declared_object k d;
  file = d.file;
  at = start_of d.name;
  import = None;
  denotes = None;
}

-- "The blank identifier .. does not introduce a binding"
abbrev pub binds : Declaration → Bool
binds d = not (is_blank_identifier (name_text d.name))

-- what these declarations declare in the block of the package at a place
abbrev pub block_of : ℕ → List Declaration → List Region
block_of k declarations = map (declared_region k) (filter binds declarations)

abbrev pub package_block : ℕ → PackageData → List Region
package_block k p = block_of k (declarations_of p)

-- the number of an object
abbrev pub object_id : Object → ObjId
object_id object = record { 0 = object.at.0 }

-- each name of these regions once, in the order in which they first stand, with the number of its last object: where no
-- rule is broken, of its one
abbrev pub names_of : List Region → List (List ℕ × ObjId)
names_of regions = insert_all same_text [] (map (λ r. (r.object.name, object_id r.object)) regions)

-- the object of each region, by its number
abbrev pub region_entries : List Region → List (ObjId × Object)
region_entries regions = map (λ r. (object_id r.object, r.object)) regions

abbrev pub objects_of : List Region → List (ObjId × Object)
objects_of regions = insert_all same_object [] (region_entries regions)
