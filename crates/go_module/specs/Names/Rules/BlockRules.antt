-- Declarations and scope; Package initialization; Program execution (Go specification).
-- Decides which declarations of a block break a rule: P4, P8, P9.
use Rattle.std.specs.Prelude.{ℕ, Bool, true, false, nat_lt, ◌&&◌, ◌||◌, List, count_by, codes}
use Rattle.std.specs.List.{flat_map}
use Rattle.go_base.specs.declared.rule.Broken.{Broken}
use Rattle.go_base.specs.declared.rule.Family.TheVariants.{P}
use Rattle.go_base.specs.declared.rule.Rule.{Rule}
use Rattle.go_tree.specs.Tree.{start_of}
use Rattle.go_module.specs.declared.block.Block.{Block}
use Rattle.go_module.specs.declared.block.Block.TheVariants.{Universe, Package, File}
use Rattle.go_module.specs.declared.block.Region.{Region}
use Rattle.go_module.specs.Broken.{broken_at, told_if}
use Rattle.go_module.specs.Modules.Heads.{package_name}
use Rattle.go_module.specs.Modules.Module.{FileData}
use Rattle.go_module.specs.Modules.Paths.{same_text}
use Rattle.go_module.specs.Names.Regions.{has_name}

abbrev pub repeated_name : Rule
repeated_name = record { family = P; number = 4 }

abbrev pub reserved_name : Rule
reserved_name = record { family = P; number = 8 }

abbrev pub missing_main : Rule
missing_main = record { family = P; number = 9 }

-- P4: "No identifier may be declared twice in the same block": at each declaration of such a name
abbrev pub is_repeated : List Region → List ℕ → Bool
is_repeated block name = nat_lt 1 (count_by (has_name name) block)

abbrev pub repeated_at : List Region → Region → List Broken
repeated_at block r = told_if (is_repeated block r.object.name) (broken_at r.file r.at repeated_name)

abbrev pub repeated : List Region → List Broken
repeated block = flat_map (repeated_at block) block

-- P8: "the identifier init may only be used for init function declarations"; the main package must "declare a
-- function main". No declaration that is built is a function.
abbrev pub is_package_block : Block → Bool
is_package_block Package = true
is_package_block Universe = false
is_package_block (File file) = false

abbrev pub is_reserved : Bool → Region → Bool
is_reserved is_main r = has_name (codes "init") r || (is_main && (is_package_block r.block && has_name (codes "main") r))

abbrev pub reserved_at : Bool → Region → List Broken
reserved_at is_main r = told_if (is_reserved is_main r) (broken_at r.file r.at reserved_name)

abbrev pub reserved : Bool → List Region → List Broken
reserved is_main block = flat_map (reserved_at is_main) block

-- whether this is the name of the package main
abbrev pub is_main_name : List ℕ → Bool
is_main_name name = same_text name (codes "main")

-- P9: package main has no function main: at the name in the package clause of a file
abbrev pub missing_main_at : Bool → ℕ → FileData → List Broken
missing_main_at is_main file f = told_if is_main (broken_at file (start_of (package_name f.tree)) missing_main)
