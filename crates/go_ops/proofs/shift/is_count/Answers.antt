use Rattle.std.proofs.Common.{◌&&◌, sym, ap, ◌∙◌}
use Rattle.go_judge.specs.Records.{rec_as}
use Rattle.go_constructs.specs.Operators.Constants.{constant_in}
use Rattle.go_constructs.specs.Operators.Shifts.{is_count, is_not_negative, represents_count}
use Rattle.go_ops.proofs.shift.is_count.Goals as goal

pub returns-in-Int : goal.returns-in-Int
returns-in-Int c = λ tree.
    c.is_not_negative.ensures
    ∙ ap is_not_negative (c.constant_in.ensures tree)
    ∙ ap (is_count (rec_as tree c.args.rec.now)) (sym c.in-Int.is)

pub returns-then-is_number : goal.returns-then-is_number
returns-then-is_number c = λ tree.
    c.represents_count.ensures
    ∙ ap (λ v. represents_count v c.args.rec.now.span) (c.constant_in-then-is_number.ensures tree)
    ∙ ap (λ b. b && represents_count (constant_in (rec_as tree c.args.rec.now)) c.args.rec.now.span) (sym c.if-is_number.true ∙ c.is_number.ensures)
    ∙ ap (is_count (rec_as tree c.args.rec.now)) (sym c.in-Untyped.is)
