-- The blocks of files, as the code has them.
use Rattle.std.specs.Prelude.{ℕ, List}
use Rattle.std.specs.List.{flat_map}
use Rattle.go_module.specs.declared.block.Import.{Import}
use Rattle.go_module.specs.declared.block.Region.{Region}
use Rattle.go_module.specs.Names.Imports.{PackageNames, Importing, file_block, import_of}
use Rattle.go_scope.specs.declared.file_block.FileBlock.{FileBlock}

pub record BlockData : Type 0 where
  pub regions : List Region
  pub imports : List Import

-- what the block of a file stands for
abbrev pub block_of : FileBlock → BlockData
block_of b = record { regions = b.regions.items; imports = b.imports.items }

-- the block that these imports make
abbrev pub block_data : (ℕ → PackageNames) → List Importing → BlockData
block_data known imports = record { regions = file_block known imports; imports = flat_map import_of imports }
