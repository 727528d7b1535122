use Rattle.std.proofs.Common.{ℕ, ◌+◌, ◌≤◌, ◌-◌, length}
use Rattle.go_tree.specs.Lexical.Comments.{IsLineComment}
use Rattle.go_form.proofs.build_constraints.line_end.Given as goal

abbrev pub invariant-loop-at : goal.invariant-loop-at
invariant-loop-at l = record {
  behind : l.from + 2 ≤ l.at;
  before : (to : ℕ) → IsLineComment l.bytes l.from to → l.at ≤ to;
}

abbrev pub decreases-loop-at : goal.decreases-loop-at
decreases-loop-at l = length l.bytes - l.at
