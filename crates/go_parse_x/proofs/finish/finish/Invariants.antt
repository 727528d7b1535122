use Rattle.std.proofs.Common.{ℕ}
use Rattle.go_tree.specs.Grammar.Tables.Prediction.{AllDecided}
use Rattle.go_tree.specs.Grammar.Trees.Sentence.{tables}
use Rattle.go_parse_x.specs.Tables.Lines.{sides}
use Rattle.go_parse_x.specs.Tables.Opened.{frames, numbers, Rises}
use Rattle.go_parse_x.specs.Machine.Turns.{IsSameAtEnd}
use Rattle.go_parse_x.specs.Machine.Weights.{cost}
use Rattle.go_parse_x.proofs.finish.finish.Given as goal

abbrev pub invariant-loop-place : goal.invariant-loop-place
invariant-loop-place l = record {
  same : IsSameAtEnd l.bytes l.last (sides l.fn.todo.items) (sides l.todo.items) (frames l.fn.opened.items) (frames l.opened.items);
  decided : AllDecided tables (sides l.todo.items);
  numbers : (low : ℕ) → Rises low (numbers l.fn.opened.items) l.fn.number → Rises low (numbers l.opened.items) l.number;
}

abbrev pub decreases-loop-place : goal.decreases-loop-place
decreases-loop-place l = cost (sides l.todo.items)
