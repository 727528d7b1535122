use Rattle.std.proofs.Common.{ap, ◌∙◌}
use Rattle.go_module.specs.Modules.Paths.{has_path}
use Rattle.go_load.proofs.PathSetLemmas.{has-keys}
use Rattle.go_load.proofs.path_set.PathSet.has.Goals as goal

pub returns : goal.returns
returns c =
    c.contains.ensures
    ∙ has-keys c.args.path.now c.self.inside.texts.keys
    ∙ ap (λ paths. has_path paths c.args.path.now) c.self.view_is
