use Rattle.std.proofs.Common.{rules}
use Rattle.go_module.specs.Names.Universe.{universe}
use Rattle.go_module.proofs.predeclared.universe.Goals as goal

pub returns : goal.returns
unfolding universe
returns c = search rules
