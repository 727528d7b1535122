use Rattle.std.proofs.Common.{ap, map, ◌∙◌, ◌||◌, List, ℕ, Bor, nat_eq}
use Rattle.std.specs.Cmp.Lexicographic.{pointwise}
use Rattle.go_mod.specs.ModuleFolders.{is_one}
use Rattle.go_mod.proofs.ModuleFolderLemmas.{one-insert}
use Rattle.go_mod.proofs.module_folders.ModuleFolders.add.Goals as goal

pub returns : goal.returns
returns c = λ other.
    ap (λ keys. is_one (map (λ (k : Bor (List ℕ)). k.now) keys) other) c.in_ok-insert.ensures.keys
    ∙ one-insert c.self.inside.folders.keys c.args.folder other
    ∙ ap (λ folders. is_one folders other || pointwise nat_eq other c.args.folder.now) c.self.view_is
