use Rattle.std.proofs.Common.{sym, ◌∙◌}
use Rattle.go_judge.specs.Records.{rec_as}
use Rattle.go_ops.proofs.CountLemmas.{count-uint}
use Rattle.go_ops.proofs.shift.shift_by.Goals as goal

pub shift_by_count-requires-clause-count : goal.shift_by_count-requires-clause-count
shift_by_count-requires-clause-count g c =
    let tree = g.J.Ask.tree c.args.judge.now in
    count-uint (rec_as tree c.args.b.now) c.args.second (sym (c.is_count.ensures tree) ∙ c.if-is_count.true) c.requires.fits
