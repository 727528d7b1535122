use Rattle.std.proofs.Common.{arith, sym, ◌∙◌}
use Rattle.go_mod.proofs.ModuleLineLemmas.{comment_more}
use Rattle.go_mod.proofs.module_lines.before_comment.Goals as goal

pub loop-end-preserved : goal.loop-end-preserved
loop-end-preserved c = record {
  within = omega arith;
  front = comment_more _ _ c.loop-end-test.true (sym c.starts_with.ensures.value ∙ c.if-not-starts_with.true) c.loop-end.invariant.front;
}
