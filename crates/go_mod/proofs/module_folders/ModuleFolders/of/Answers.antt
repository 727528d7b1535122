use Rattle.std.proofs.Common.{◌≡◌, ◌∙◌, ap, take, arith}
use Rattle.std.specs.List.{list_any}
use Rattle.std.proofs.lemmas.List.{take_all}
use Rattle.go_mod.specs.ModuleFolders.{is_own_module_file}
use Rattle.go_mod.proofs.ModuleFolderLemmas.{own-any}
use Rattle.go_mod.proofs.module_folders.ModuleFolders.of.Goals as goal

pub returns : goal.returns
returns c = λ folder.
    let all : take c.loop-path.path-index c.args.paths.now ≡ c.args.paths.now =
    take_all c.loop-path.path-index c.args.paths.now (omega arith) in
    c.loop-path.invariant folder
    ∙ ap (list_any (is_own_module_file folder)) all
    ∙ own-any c.args.paths.now folder
