use Rattle.std.proofs.Common.{◌-◌, length}
use Rattle.go_scan.proofs.CommentLemmas.{Inside}
use Rattle.go_scan.proofs.comments.general_comment.Given as goal

abbrev pub invariant-loop-from : goal.invariant-loop-from
invariant-loop-from l = Inside l.bytes l.from l.at

abbrev pub decreases-loop-from : goal.decreases-loop-from
decreases-loop-from l = length l.bytes - l.at
