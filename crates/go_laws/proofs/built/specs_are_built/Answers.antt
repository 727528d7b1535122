use Rattle.go_laws.proofs.BuiltModuleLemmas.{specs_are_built}
use Rattle.go_laws.proofs.built.specs_are_built.Goals as goal

pub returns : goal.returns
returns c = specs_are_built
