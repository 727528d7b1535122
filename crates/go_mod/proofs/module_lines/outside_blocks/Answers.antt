use Rattle.std.proofs.Common.{ap, ◌∙◌, ◌++◌, map, arith}
use Rattle.go_mod.specs.ModuleLines.{outside_blocks}
use Rattle.go_mod.specs.Seen.{seen}
use Rattle.go_mod.proofs.ModuleLineLemmas.{lines_step}
use Rattle.go_mod.proofs.module_lines.outside_blocks.Goals as goal

pub loop-offset-preserved : goal.loop-offset-preserved
loop-offset-preserved c = record {
  within = omega (arith, c.line_len-len.ensures.within, c.loop-offset-test.true);
  all = c.in_ok-in_block.ensures _
      ∙ ap (λ lines. map seen c.loop-offset.lines.items ++ outside_blocks c.loop-offset.in_block lines) (lines_step c.args.bytes.now c.loop-offset.offset c.line_len-len.result c.content-text.result.now c.loop-offset-test.true c.line_len-len.ensures.len c.content-text.ensures)
      ∙ c.loop-offset.invariant.all;
}
