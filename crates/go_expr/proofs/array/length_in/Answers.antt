use Rattle.std.proofs.Common.{ap, ◌∙◌}
use Rattle.go_constructs.specs.Array.{length_by}
use Rattle.go_expr.proofs.array.length_in.Goals as goal

pub returns-in-Some : goal.returns-in-Some
returns-in-Some c = λ tree. c.length_by.ensures ∙ ap length_by (c.in-Some.ensures tree)

pub returns-in-None : goal.returns-in-None
returns-in-None c = λ tree. ap length_by (c.in-None.ensures tree)
