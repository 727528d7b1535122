use Rattle.std.proofs.Common.{◌≡◌, take}
use Rattle.go_base.specs.Tree.{paths_of}
use Rattle.go_base.proofs.files.Files.paths.Given as goal

abbrev pub invariant-loop-file : goal.invariant-loop-file
invariant-loop-file l = l.names.items ≡ paths_of (take l.file-index l.file-items) l.root
