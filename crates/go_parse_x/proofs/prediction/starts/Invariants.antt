use Rattle.std.proofs.Common.{◌≡◌, ◌≤◌, length, take}
use Rattle.go_tree.specs.Grammar.Tables.Prediction.{starts}
use Rattle.go_tree.specs.Grammar.Trees.Sentence.{tables}
use Rattle.go_parse_x.specs.Tables.Lines.{sides}
use Rattle.go_parse_x.proofs.prediction.starts.Given as goal

-- the places that were passed are empty, and do not begin with the kind
abbrev pub invariant-loop-i : goal.invariant-loop-i
invariant-loop-i l = (starts tables (sides (take l.i l.todo)) l.kind ≡ starts tables (sides l.todo) l.kind) × (l.i ≤ length l.todo)

abbrev pub decreases-loop-i : goal.decreases-loop-i
decreases-loop-i l = l.i
