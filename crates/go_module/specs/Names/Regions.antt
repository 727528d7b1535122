-- Declarations and scope; Blocks (Go specification).
-- Decides the regions in which the names of a package denote objects, and which object an occurrence
-- denotes. No order of work is named.
use Rattle.std.specs.Prelude.{ℕ, ◌==◌, Bool, not, ◌&&◌, List, ◌++◌, filter, find, count_by, Option}
use Rattle.std.specs.List.{flat_map, list_any}
use Rattle.go_module.specs.declared.block.Region.{Region}
use Rattle.go_module.specs.declared.block.Occurrence.{Occurrence}
use Rattle.go_module.specs.Modules.Module.{PackageData}
use Rattle.go_module.specs.Modules.Paths.{same_text}
use Rattle.go_module.specs.Names.Blocks.{holds_file, lies_inside}
use Rattle.go_module.specs.Names.PackageBlock.{package_block}
use Rattle.go_module.specs.Names.Imports.{PackageNames, file_block, imports_of}
use Rattle.go_module.specs.Names.Universe.{universe}

-- all regions of the package at a place: those of the universe block, of its own block, and of the blocks
-- of its files
abbrev pub regions_of : (ℕ → PackageNames) → ℕ → PackageData → List Region
regions_of known k p = universe ++ (package_block k p ++ flat_map (file_block known) (imports_of k p))

abbrev pub has_name : List ℕ → Region → Bool
has_name name r = same_text name r.object.name

-- the region is of the name that occurs, and holds the occurrence
abbrev pub holds : Occurrence → Region → Bool
holds o r = has_name o.name r && holds_file r.block o.file

-- of these regions it lies inside all but one, which is itself
abbrev pub lies_inside_others : List Region → Region → Bool
lies_inside_others regions r = count_by (λ other. not (lies_inside r.block other.block)) regions == 1

-- the region that holds the occurrence and lies inside all others of the name that hold it: the occurrence
-- denotes its object. A name that one block declares several times has none there.
abbrev pub resolution : List Region → Occurrence → Option Region
resolution regions o = find (lies_inside_others (filter (holds o) regions)) (filter (holds o) regions)

-- some region holds it
abbrev pub is_held : List Region → Occurrence → Bool
is_held regions o = list_any (holds o) regions
