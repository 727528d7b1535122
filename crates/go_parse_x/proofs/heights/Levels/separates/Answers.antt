use Rattle.std.proofs.Common.{refl}
use Rattle.go_parse_x.proofs.LevelLemmas.{separated}
use Rattle.go_parse_x.proofs.heights.Levels.separates.Goals as goal

pub returns : goal.returns
returns c = λ ms h. separated c.args.self.now _ ms h refl refl c.saturating_sub-self.ensures
