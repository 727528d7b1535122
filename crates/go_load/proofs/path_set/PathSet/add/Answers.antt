use Rattle.std.proofs.Common.{not, map, ap, ◌∙◌, List, ℕ, Bor}
use Rattle.go_module.specs.Modules.Paths.{has_path}
use Rattle.go_load.specs.Packages.PathSets.{with_path}
use Rattle.go_load.proofs.PathSetLemmas.{has-keys, with-keys}
use Rattle.go_load.proofs.path_set.PathSet.add.Goals as goal

pub returns-clause-new : goal.returns-clause-new
returns-clause-new c =
    c.in_ok-insert.ensures.added
    ∙ ap not (has-keys c.args.path.now c.self.inside.texts.keys ∙ ap (λ paths. has_path paths c.args.path.now) c.self.view_is)

pub returns-clause-paths : goal.returns-clause-paths
returns-clause-paths c =
    ap (map (λ (k : Bor (List ℕ)). k.now)) c.in_ok-insert.ensures.keys
    ∙ with-keys c.self.inside.texts.keys c.args.path
    ∙ ap (λ paths. with_path paths c.args.path.now) c.self.view_is
