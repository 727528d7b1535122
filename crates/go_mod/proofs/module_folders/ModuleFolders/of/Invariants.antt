use Rattle.std.proofs.Common.{◌≡◌, List, ℕ, take}
use Rattle.std.specs.List.{list_any}
use Rattle.go_mod.specs.ModuleFolders.{is_one, is_own_module_file}
use Rattle.go_mod.proofs.module_folders.ModuleFolders.of.Given as goal

abbrev pub invariant-loop-path : goal.invariant-loop-path
invariant-loop-path l = (folder : List ℕ) →
    is_one l.modules folder ≡ list_any (is_own_module_file folder) (take l.path-index l.paths)
