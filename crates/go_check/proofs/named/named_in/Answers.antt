use Rattle.std.proofs.Common.{map, ◌∙◌}
use Rattle.go_report.specs.Report.{named_view}
use Rattle.go_check.specs.View.{outline_view}
use Rattle.go_check.proofs.NamedLemmas.{all_named}
use Rattle.go_check.proofs.named.named_in.Goals as goal

pub returns : goal.returns
returns c =
    all_named (outline_view c.args.outline.now) c.args.lines.now c.loop-line.line-index (map named_view c.loop-d.named.items) c.loop-d.d-iterator c.into_iter-d-iterator.result c.loop-line.objects.entries
    c.loop-line-test.false c.in-None.ensures.steps.0 (c.into_iter-d-iterator.ensures.into_iter_gives ∙ c.keys-d-items.ensures.rest) c.loop-d.invariant c.loop-line.invariant
