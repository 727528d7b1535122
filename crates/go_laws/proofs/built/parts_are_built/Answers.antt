use Rattle.go_laws.proofs.BuiltModuleLemmas.{parts_are_built}
use Rattle.go_laws.proofs.built.parts_are_built.Goals as goal

pub returns : goal.returns
returns c = parts_are_built
