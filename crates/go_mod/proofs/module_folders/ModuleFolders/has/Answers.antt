use Rattle.std.proofs.Common.{ap, ◌∙◌}
use Rattle.go_mod.specs.ModuleFolders.{is_one}
use Rattle.go_mod.proofs.ModuleFolderLemmas.{one-keys}
use Rattle.go_mod.proofs.module_folders.ModuleFolders.has.Goals as goal

pub returns : goal.returns
returns c =
    c.contains.ensures
    ∙ one-keys c.args.folder.now c.self.inside.folders.keys
    ∙ ap (λ folders. is_one folders c.args.folder.now) c.self.view_is
