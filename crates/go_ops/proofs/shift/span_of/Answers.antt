use Rattle.std.proofs.Common.{sym, ap, ◌∙◌}
use Rattle.go_judge.specs.Records.{rec_as}
use Rattle.go_constructs.specs.Operators.Shifts.{span_by, span_of}
use Rattle.go_ops.proofs.shift.span_of.Goals as goal

pub returns-in-Untyped : goal.returns-in-Untyped
returns-in-Untyped c = λ tree.
    c.span_by.ensures
    ∙ ap (λ v. span_by v c.args.rec.now.span) (c.constant_in.ensures tree)
    ∙ ap (span_of (rec_as tree c.args.rec.now)) (sym c.in-Untyped.is)
