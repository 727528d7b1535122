-- Declarations and scope (Go specification).
-- Decides where the objects of a module are declared, as a report has it, and what types name them by.
use Rattle.std.specs.Prelude.{ℕ, ◌+◌, Bool, false, if◌then◌else◌, List, [], ◌∷◌, ◌++◌, map, Option, Some, None, slice_get, unwrap_or}
use Rattle.std.specs.Map.{lookup}
use Rattle.std.specs.Option.{option_map_or}
use Rattle.go_base.specs.declared.ids.ObjId.{ObjId}
use Rattle.go_module.specs.IndexMap.{insert_all}
use Rattle.go_tree.specs.Tree.{Tree, id_of, start_of}
use Rattle.go_module.specs.declared.places.At.{At}
use Rattle.go_module.specs.Modules.Heads.{import_specs}
use Rattle.go_module.specs.Modules.Module.{FileData, PackageData, ModuleData}
use Rattle.go_module.specs.Names.Declarations.{declarations_in, name_text, specs_in_file}
use Rattle.go_module.specs.Names.Universe.{universe}
use Rattle.go_module.specs.NodeParts.{first_part}
use Rattle.go_module.specs.Places.{at_offset}
use Rattle.go_module.specs.Scopes.{same_object}
use Rattle.go_judge.specs.Headers.{is_predeclared}
use Rattle.go_report.specs.declared.declared_object.DeclaredObject.{DeclaredObject}
use Rattle.go_report.specs.Report.{NamedData}

-- the nodes of a file that can declare objects, by their texts: of an import its name or, if it is omitted, its string;
-- the names of the file's declarations
abbrev pub declaring : ℕ → Tree → List Tree
declaring file tree = map first_part (import_specs tree) ++ map (λ d. d.name) (declarations_in (specs_in_file file tree))

abbrev pub declared_by : ℕ → Bool → FileData → Tree → ObjId × DeclaredObject
declared_by k stub f node = (record { 0 = id_of node }, record { name = name_text node; home = k; at = at_offset stub f (start_of node) })

-- those of these files of the package at a place, of which the first file has this place
abbrev pub declared_from : ℕ → Bool → ℕ → List FileData → List (ObjId × DeclaredObject)
declared_from k stub file [] = []
declared_from k stub file (f ∷ files) = map (declared_by k stub f) (declaring file f.tree) ++ declared_from k stub (file + 1) files

-- those of these packages, of which the first has this place
abbrev pub declared_in_packages : ℕ → List PackageData → List (ObjId × DeclaredObject)
declared_in_packages k [] = []
declared_in_packages k (p ∷ ps) = declared_from k p.stub 0 p.files ++ declared_in_packages (k + 1) ps

-- what the lines of a package need of the module around it: the paths of its packages, and where its objects are
-- declared, each by its number
pub record Outline : Type 0 where
  pub paths : List (List ℕ)
  pub declared : List (ObjId × DeclaredObject)

abbrev pub outline_of : ModuleData → Outline
outline_of m = record { paths = map (λ p. p.path) m.packages; declared = insert_all same_object [] (declared_in_packages 0 m.packages) }

abbrev pub path_at : Outline → ℕ → List ℕ
path_at outline place = unwrap_or (slice_get outline.paths place) []

-- the declaration of an object; of one that has none, which no identifier denotes, it stands at no line
abbrev pub declaration_of : Outline → ObjId → DeclaredObject
declaration_of outline d = unwrap_or (lookup (same_object d) outline.declared) (record { name = []; home = 0; at = record { stub = false; file = []; line = 0; col = 0 } })

-- where an object is declared: nowhere exactly where it has a number of the universe
abbrev pub declared_at : Outline → ObjId → Option At
declared_at outline d = if is_predeclared d then None else Some (declaration_of outline d).at

abbrev pub universe_name : ObjId → List ℕ
universe_name d = option_map_or (λ r. r.object.name) (slice_get universe d.0) []

-- what types name an object by: of a universe name no path and no place
abbrev pub named_by : Outline → ObjId → NamedData
named_by outline d =
    if is_predeclared d then record { object = d; path = []; name = universe_name d; at = None; local = false; params = [] }
    else record { object = d; path = path_at outline (declaration_of outline d).home; name = (declaration_of outline d).name; at = Some (declaration_of outline d).at; local = false; params = [] }
