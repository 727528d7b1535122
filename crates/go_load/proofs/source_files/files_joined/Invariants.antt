use Rattle.std.proofs.Common.{◌≡◌, ◌++◌, length, map, reverse}
use Rattle.go_module.specs.Modules.Module.{file_view}
use Rattle.go_load.specs.Packages.SourceFiles.{joined}
use Rattle.go_load.proofs.source_files.files_joined.Given as goal

-- what is left and the files so far are all files
abbrev pub invariant-loop-tree : goal.invariant-loop-tree
invariant-loop-tree l =
    (length l.texts.items ≡ length l.trees.items)
    × (joined l.texts.items l.trees.items ++ reverse (map file_view l.files.items) ≡ joined l.fn.texts.items l.fn.trees.items)

abbrev pub decreases-loop-tree : goal.decreases-loop-tree
decreases-loop-tree l = length l.trees.items
