-- Blocks (Go specification).
-- Decides which block holds the text of which file, and which block lies inside which.
use Rattle.std.specs.Prelude.{ℕ, Bool, true, false, ◌==◌}
use Rattle.go_module.specs.declared.block.Block.{Block}
use Rattle.go_module.specs.declared.block.Block.TheVariants.{Universe, Package, File}

-- "The universe block encompasses all Go source text. Each package has a package block containing all Go
-- source text for that package. Each file has a file block containing all Go source text in that file."
-- A file of the package is known by its place.
abbrev pub holds_file : Block → ℕ → Bool
holds_file Universe file = true
holds_file Package file = true
holds_file (File own) file = own == file

-- "Blocks nest and influence scoping": whether the one block lies inside the other
abbrev pub lies_inside : Block → Block → Bool
lies_inside Universe other = false
lies_inside Package Universe = true
lies_inside Package Package = false
lies_inside Package (File other) = false
lies_inside (File own) Universe = true
lies_inside (File own) Package = true
lies_inside (File own) (File other) = false
