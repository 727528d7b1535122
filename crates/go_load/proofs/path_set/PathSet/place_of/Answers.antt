use Rattle.std.proofs.Common.{ap, ◌∙◌}
use Rattle.go_load.specs.Packages.PathSets.{place_of}
use Rattle.go_load.proofs.PathSetLemmas.{position-of}
use Rattle.go_load.proofs.path_set.PathSet.place_of.Goals as goal

pub returns-clause-place : goal.returns-clause-place
returns-clause-place c =
    c.get_index_of.ensures.index ∙ position-of c.self.inside.texts.keys c.args.path.now ∙ ap (λ paths. place_of paths c.args.path.now) c.self.view_is
