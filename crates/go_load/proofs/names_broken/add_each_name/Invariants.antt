use Rattle.std.proofs.Common.{◌≡◌, ◌++◌, map, take}
use Rattle.go_module.specs.Broken.{broken_at}
use Rattle.go_module.specs.Modules.BrokenImports.{mixed_package, name_place}
use Rattle.go_load.proofs.names_broken.add_each_name.Given as goal

abbrev pub invariant-loop-file : goal.invariant-loop-file
invariant-loop-file l = l.found.items ≡ l.fn.found.items ++ map (λ file. broken_at file (name_place l.heads file) mixed_package) (take l.file-index l.files)
