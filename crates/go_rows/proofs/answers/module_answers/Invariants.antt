use Rattle.std.proofs.Common.{◌≡◌, vec_len}
use Rattle.go_rows.proofs.answers.module_answers.Given as goal

abbrev pub invariant-loop-one : goal.invariant-loop-one
invariant-loop-one l = vec_len l.answers ≡ l.one-index
