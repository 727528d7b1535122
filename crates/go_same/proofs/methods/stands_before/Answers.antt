use Rattle.std.proofs.Common.{ap, ◌∙◌}
use Rattle.std.specs.Ordering.{is_lt}
use Rattle.go_same.proofs.MethodLemmas.{compared_before}
use Rattle.go_same.proofs.methods.stands_before.Goals as goal

pub returns : goal.returns
returns c = c.is_lt.ensures ∙ ap is_lt c.compare.ensures ∙ compared_before c.args.a.now c.args.b.now
