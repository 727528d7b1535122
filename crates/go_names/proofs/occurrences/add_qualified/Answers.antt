use Rattle.std.proofs.Common.{arith}
use Rattle.std.proofs.lemmas.Grind.{common_steps}
use Rattle.go_names.proofs.occurrences.add_qualified.Goals as goal

pub returns : goal.returns
returns c = grind (arith, common_steps, c.in_ok-selected.ensures c.args.file)
