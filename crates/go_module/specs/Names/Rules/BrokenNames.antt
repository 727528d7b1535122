-- Declarations and scope (Go specification).
-- Decides all that a package breaks by its names, which is a phase of its own. Each rule stands in `BlockRules`,
-- `ImportRules`, `OccurrenceRules` or `MemberRules`.
use Rattle.std.specs.Prelude.{ℕ, ◌+◌, Bool, List, [], ◌∷◌, ◌++◌, map}
use Rattle.std.specs.List.{flat_map}
use Rattle.go_base.specs.declared.rule.Broken.{Broken}
use Rattle.go_module.specs.declared.block.Region.{Region}
use Rattle.go_module.specs.Modules.Module.{FileData, PackageData}
use Rattle.go_module.specs.Places.{with_number}
use Rattle.go_module.specs.Names.Rules.BlockRules.{repeated, reserved, missing_main_at, is_main_name}
use Rattle.go_module.specs.Names.PackageBlock.{package_block}
use Rattle.go_module.specs.Names.Imports.{Importing, PackageNames, file_block, import_of, imports_of}
use Rattle.go_module.specs.Names.Rules.ImportRules.{conflicting, unused}
use Rattle.go_module.specs.Names.Declarations.{specs_in_file}
use Rattle.go_module.specs.Names.Rules.MemberRules.{broken_in_spec}
use Rattle.go_module.specs.Names.Rules.OccurrenceRules.{broken_occurrences}
use Rattle.go_module.specs.Names.Occurrences.{occurrences_in_file}
use Rattle.go_module.specs.Names.Regions.{regions_of}

-- what the package block breaks
abbrev pub broken_block : Bool → List Region → List Broken
broken_block is_main block = repeated block ++ reserved is_main block

-- what the imports of a file break
abbrev pub broken_imports : (ℕ → PackageNames) → List Region → List Region → ℕ → FileData → List Importing → List Broken
broken_imports known regions block file f imports =
    repeated (file_block known imports)
    ++ (conflicting block (file_block known imports) (flat_map import_of imports)
    ++ unused regions (file_block known imports) (occurrences_in_file file f.tree) (flat_map import_of imports))

-- what a file breaks
abbrev pub broken_file : (ℕ → PackageNames) → Bool → List Region → List Region → ℕ → FileData → List Importing → List Broken
broken_file known is_main regions block file f imports =
    missing_main_at is_main file f
    ++ (reserved is_main (file_block known imports)
    ++ (broken_imports known regions block file f imports
    ++ (broken_occurrences known regions (occurrences_in_file file f.tree)
    ++ flat_map broken_in_spec (specs_in_file file f.tree))))

-- what the files break, of which the first has this place
abbrev pub broken_files : (ℕ → PackageNames) → Bool → List Region → List Region → ℕ → List FileData → List (List Importing) → List Broken
broken_files known is_main regions block file (f ∷ files) (imports ∷ others) =
    broken_file known is_main regions block file f imports ++ broken_files known is_main regions block (file + 1) files others
broken_files known is_main regions block file files imports = []

-- what the package breaks, by the places of its files
abbrev pub broken_in_files : (ℕ → PackageNames) → ℕ → PackageData → List Broken
broken_in_files known k p =
    broken_block (is_main_name p.name) (package_block k p)
    ++ broken_files known (is_main_name p.name) (regions_of known k p) (package_block k p) 0 p.files (imports_of k p)

-- what the package breaks, in any order
abbrev pub broken_names : (ℕ → PackageNames) → ℕ → PackageData → List Broken
broken_names known k p = map (with_number p.files) (broken_in_files known k p)
