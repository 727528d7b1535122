use Rattle.std.proofs.Common.{◌∙◌}
use Rattle.go_scan.proofs.CommentLemmas.{line_stuck, line_none}
use Rattle.go_scan.proofs.comments.line_comment.Goals as goal

pub returns-else-byte_at-eq10-clause-stuck : goal.returns-else-byte_at-eq10-clause-stuck
returns-else-byte_at-eq10-clause-stuck c = line_stuck _ _ _ c.requires c.run_end-to.ensures.run c.run_end-to.ensures.ends

pub returns-else-byte_at-eq10-clause-none : goal.returns-else-byte_at-eq10-clause-none
returns-else-byte_at-eq10-clause-none c = line_none _ _ _ c.run_end-to.ensures.run c.run_end-to.ensures.ends c.if-to-bytes.false (λ e. c.if-byte_at-eq10.false (c.byte_at.ensures ∙ e))
