-- The specs of the files of a package.
use Rattle.std.proofs.Common.{◌≡◌, ℕ, ◌+◌, Bool, List, [], ◌∷◌, ◌++◌, length, drop, refl, sym, ap, ◌∙◌}
use Rattle.std.specs.List.{flat_map}
use Rattle.go_module.specs.Modules.Heads.{import_specs}
use Rattle.go_module.specs.Modules.Module.{FileData, PackageData}
use Rattle.go_module.specs.Names.Declarations.{specs_from, specs_in_file}
use Rattle.go_operands.specs.Operands.{expressions_in_parts}
use Rattle.go_model.specs.Outcomes.Walked.{nodes_of}
use Rattle.go_check.specs.Lines.Found.{OwnFileData, all_specs_in, nodes_of_files, own_files_from, own_files_in}

-- the specs of all files are those of the package
pub specs_are : (stub : Bool) (place : ℕ) (files : List FileData) (packages : List ℕ) → all_specs_in (own_files_from stub place files packages) ≡ specs_from place files
specs_are stub place [] packages = refl
specs_are stub place (f ∷ files) packages =
    ap (λ l. specs_in_file place f.tree ++ l) (specs_are stub (place + 1) files (drop (length (import_specs f.tree)) packages))

-- and so are their nodes
pub nodes_are : (files : List OwnFileData) (p : PackageData) → files ≡ own_files_in p → nodes_of p ≡ nodes_of_files files
nodes_are files p same = ap (flat_map expressions_in_parts) (sym (ap all_specs_in same ∙ specs_are p.stub 0 p.files p.imports))
