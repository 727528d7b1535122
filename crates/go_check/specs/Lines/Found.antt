-- The files of a package with what stands in them, and the lines that are found file by file.
use Rattle.std.specs.Prelude.{ℕ, ◌+◌, Bool, List, [], ◌∷◌, ◌++◌, length, map, take, drop, Option}
use Rattle.std.specs.List.{flat_map, zip}
use Rattle.go_base.specs.declared.ids.ObjId.{ObjId}
use Rattle.go_tree.specs.declared.node.NodeId.{NodeId}
use Rattle.go_tree.specs.Tree.{Tree, parts_of}
use Rattle.go_module.specs.Modules.Heads.{import_specs}
use Rattle.go_module.specs.Modules.Module.{FileData, PackageData, file_view}
use Rattle.go_module.specs.Names.Declarations.{Spec, declarations_in, specs_in_file}
use Rattle.go_module.specs.Names.Occurrences.{names_in_parts}
use Rattle.go_operands.specs.Operands.{expressions_in_parts}
use Rattle.go_module.specs.NodeParts.{first_part}
use Rattle.go_report.specs.declared.declared_object.DeclaredObject.{DeclaredObject}
use Rattle.go_judge.specs.Headers.{Headers}
use Rattle.go_judge.specs.Judged.{OutcomeData}
use Rattle.go_judge.specs.Records.{RecData}
use Rattle.go_report.specs.Outline.{Outline, declared_by}
use Rattle.go_report.specs.Finals.Nodes.{final_among}
use Rattle.go_report.specs.PackageLines.{def_by, expr_by, finals_in, import_defs_in, member_defs_by, occurrence_uses, written}
use Rattle.go_report.specs.Report.{LineData}
use Rattle.go_names.specs.Views.{specs_view, trees_at}
use Rattle.go_check.specs.declared.own_file.OwnFile.{OwnFile}

-- a file of a package: whether it lies below the root of stubs, its import specs, the packages that these name, and
-- its specs
pub record OwnFileData : Type 0 where
  pub stub : Bool
  pub file : FileData
  pub imports : List Tree
  pub packages : List ℕ
  pub specs : List Spec

abbrev pub own_file : Bool → ℕ → FileData → List ℕ → OwnFileData
own_file stub place f packages = record {
  stub = stub;
  file = f;
  imports = import_specs f.tree;
  packages = take (length (import_specs f.tree)) packages;
  specs = specs_in_file place f.tree;
}

-- those of these files, of which the first has this place
abbrev pub own_files_from : Bool → ℕ → List FileData → List ℕ → List OwnFileData
own_files_from stub place [] packages = []
own_files_from stub place (f ∷ files) packages = own_file stub place f packages ∷ own_files_from stub (place + 1) files (drop (length (import_specs f.tree)) packages)

abbrev pub own_files_in : PackageData → List OwnFileData
own_files_in p = own_files_from p.stub 0 p.files p.imports

abbrev pub own_file_view : OwnFile → OwnFileData
own_file_view f = record { stub = f.stub; file = file_view f.file.now; imports = trees_at f.imports.items; packages = f.packages.now; specs = specs_view f.specs.items }

abbrev pub own_files_view : List OwnFile → List OwnFileData
own_files_view files = map own_file_view files

abbrev pub all_specs_in : List OwnFileData → List Spec
all_specs_in files = flat_map (λ f. f.specs) files

-- the nodes behind the names of all specs
abbrev pub nodes_of_files : List OwnFileData → List Tree
nodes_of_files files = flat_map expressions_in_parts (all_specs_in files)

-- what a file declares, by the numbers of objects
abbrev pub declared_in_file : ℕ → OwnFileData → List (ObjId × DeclaredObject)
declared_in_file k f = map (declared_by k f.stub f.file) (map first_part f.imports ++ map (λ d. d.name) (declarations_in f.specs))

-- the lines of what a file declares, of its uses and of its expressions, by what says which outcome a node has
abbrev pub import_lines : Outline → OwnFileData → List (Tree × ℕ) → List LineData
import_lines outline f pairs = flat_map (λ pair. import_defs_in outline f.stub f.file pair.1 (parts_of pair.0)) pairs

abbrev pub def_lines : Outline → (Tree → OutcomeData RecData) → OwnFileData → List LineData
def_lines outline outcome f =
    import_lines outline f (zip f.imports f.packages)
    ++ (flat_map (def_by outcome f.stub f.file) (declarations_in f.specs)
    ++ flat_map (member_defs_by outcome f.stub f.file) (flat_map expressions_in_parts (written f.specs)))

abbrev pub use_lines : Outline → (NodeId → Option ObjId) → OwnFileData → List LineData
use_lines outline denotes f = flat_map (occurrence_uses outline f.stub f.file denotes) (flat_map names_in_parts (written f.specs))

abbrev pub expr_lines : Headers → (Tree → OutcomeData RecData) → OwnFileData → List LineData
expr_lines headers outcome f =
    flat_map (expr_by outcome (final_among (finals_in headers outcome f.specs)) f.stub f.file) (flat_map expressions_in_parts (written f.specs))
