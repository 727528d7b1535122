-- Import declarations (Go specification).
-- Decides which names the imports of a file declare in the block of the file.
use Rattle.std.specs.Prelude.{ℕ, ◌+◌, Bool, true, false, if◌then◌else◌, List, [], ◌∷◌, map, filter, take, drop, length, slice_get, Option, Some, None, option_and_then}
use Rattle.std.specs.List.{filter_map, flat_map, zip}
use Rattle.std.specs.Map.{lookup}
use Rattle.std.specs.Option.{option_map_or}
use Rattle.go_tree.specs.declared.node_kind.NodeKind.TheVariants.{DotImport}
use Rattle.go_tree.specs.Tree.{Tree, branch, Trees, no_trees, more_trees, parts_of, id_of, start_of}
use Rattle.go_module.specs.declared.block.Region.{Region}
use Rattle.go_module.specs.declared.block.Import.{Import}
use Rattle.go_module.specs.declared.block.Block.TheVariants.{File}
use Rattle.go_base.specs.declared.ids.ObjId.{ObjId}
use Rattle.go_module.specs.declared.object.Object.{Object}
use Rattle.go_module.specs.declared.object.ObjKind.TheVariants.{Package}
use Rattle.go_module.specs.Modules.Heads.{import_specs}
use Rattle.go_module.specs.Modules.Module.{FileData, PackageData, ModuleData}
use Rattle.go_module.specs.Modules.Paths.{same_text}
use Rattle.go_module.specs.Names.Declarations.{name_text}
use Rattle.go_module.specs.Names.Exported.{is_blank_identifier, is_exported}
use Rattle.go_module.specs.Names.PackageBlock.{names_of, objects_of, package_block}
use Rattle.go_module.specs.Scopes.{same_object}

-- what a package is known by to those that import it: the name in its package clauses, the objects of the exported names
-- of its block, and the object that an exported name denotes
pub record PackageNames : Type 0 where
  pub clause : List ℕ
  pub exports : List Object
  pub exported : List ℕ → Option Object

-- by the names of its block, each with a number, and by the objects that these numbers have
abbrev pub known_by_tables : List ℕ → List (List ℕ × ObjId) → List (ObjId × Object) → PackageNames
known_by_tables clause names objects = record {
  clause = clause;
  exports = filter_map (λ entry. lookup (same_object entry.1) objects) (filter (λ entry. is_exported entry.0) names);
  exported = λ name. if is_exported name then option_and_then (λ d. lookup (same_object d) objects) (lookup (same_text name) names) else None;
}

-- what the package at each place of a module is known by
abbrev pub known_in : ModuleData → ℕ → PackageNames
known_in m k = option_map_or (λ p. known_by_tables p.name (names_of (package_block k p)) (objects_of (package_block k p))) (slice_get m.packages k) (known_by_tables [] [] [])

-- an import: its spec, the place of its file among the files of its package, and the packages that import
-- and are imported, by their places in the module
pub record Importing : Type 0 where
  pub spec : Tree
  pub file : ℕ
  pub importer : ℕ
  pub imported : ℕ

-- a package's name for the file, declared by a node: the identifier or, if it is omitted, the string
abbrev pub import_region : Importing → List ℕ → Tree → Region
import_region i name node = record {
  block = File i.file;
  object = record { name = name; kind = Package; at = record { 0 = id_of node }; «package» = i.importer; params = 0 };
  file = i.file;
  at = start_of node;
  import = Some (record { 0 = id_of i.spec });
  denotes = Some i.imported;
}

-- an exported object of the imported package, declared by the string
abbrev pub dot_region : Importing → Tree → Object → Region
dot_region i string object = record {
  block = File i.file;
  object = object;
  file = i.file;
  at = start_of string;
  import = Some (record { 0 = id_of i.spec });
  denotes = None;
}

abbrev pub is_dot : Tree → Bool
is_dot (branch id from to DotImport text parts) = true
is_dot t = false

-- "If the PackageName is omitted, it defaults to the identifier specified in the package clause of the
-- imported package. If an explicit period (.) appears instead of a name, all the package's exported
-- identifiers declared in that package's package block will be declared in the importing source file's file
-- block". The blank identifier declares none.
abbrev pub named_regions : PackageNames → Importing → Tree → Tree → List Region
named_regions known i name string =
    if is_dot name then map (dot_region i string) known.exports
    else if is_blank_identifier (name_text name) then []
    else import_region i (name_text name) name ∷ []

-- ImportSpec = [ "." | PackageName ] ImportPath .
abbrev pub import_parts : PackageNames → Importing → Trees → List Region
import_parts known i (more_trees string no_trees) = import_region i known.clause string ∷ []
import_parts known i (more_trees name (more_trees string no_trees)) = named_regions known i name string
import_parts known i parts = []

abbrev pub import_regions : (ℕ → PackageNames) → Importing → List Region
import_regions known i = import_parts (known i.imported) i (parts_of i.spec)

-- the block of a file, by its imports
abbrev pub file_block : (ℕ → PackageNames) → List Importing → List Region
file_block known imports = flat_map (import_regions known) imports

-- `_ "q"`
abbrev pub is_blank_import : Trees → Bool
is_blank_import (more_trees name (more_trees string no_trees)) = if is_dot name then false else is_blank_identifier (name_text name)
is_blank_import parts = false

-- an import that declares names
abbrev pub import_of : Importing → List Import
import_of i = if is_blank_import (parts_of i.spec) then [] else record { id = record { 0 = id_of i.spec }; file = i.file; at = start_of i.spec } ∷ []

-- the imports of a file with these specs, where the packages that they name stand one after another
abbrev pub imports_in : ℕ → ℕ → List Tree → List ℕ → List Importing
imports_in importer file specs packages = map (λ pair. record { spec = pair.0; file = file; importer = importer; imported = pair.1 }) (zip specs packages)

-- the imports of each file; a package's imports stand file after file
abbrev pub imports_from : ℕ → ℕ → List FileData → List ℕ → List (List Importing)
imports_from importer file [] packages = []
imports_from importer file (f ∷ files) packages =
    imports_in importer file (import_specs f.tree) (take (length (import_specs f.tree)) packages)
    ∷ imports_from importer (file + 1) files (drop (length (import_specs f.tree)) packages)

abbrev pub imports_of : ℕ → PackageData → List (List Importing)
imports_of k p = imports_from k 0 p.files p.imports
