use Rattle.std.proofs.Common.{ap, ◌∙◌}
use Rattle.go_term.specs.View.{type_of}
use Rattle.go_constructs.specs.Operators.Operations.{has_no_quotient}
use Rattle.go_ops.proofs.definedness.has_zero.Goals as goal

pub returns : goal.returns
returns c = c.has_no_quotient.ensures ∙ ap (has_no_quotient c.args.op) (c.constant_in.ensures type_of)
