use Rattle.std.proofs.Common.{ℕ}
use Rattle.go_parse_x.specs.Tables.Lines.{on_top, sides}
use Rattle.go_parse_x.specs.Tables.Opened.{frames, numbers, Rises}
use Rattle.go_parse_x.specs.Machine.Turns.{IsSound, IsSame, IsMet}
use Rattle.go_parse_x.specs.Machine.Weights.{cost}
use Rattle.go_parse_x.proofs.SettleLemmas.{assumed_so}
use Rattle.go_parse_x.proofs.settle.settle.Given as goal

abbrev pub invariant-loop-place : goal.invariant-loop-place
invariant-loop-place l = record {
  same : IsSame l.bytes l.seen (assumed_so l.seen l.asked) (sides l.fn.todo.items) (on_top l.next (sides l.todo.items)) (frames l.fn.opened.items) (frames l.opened.items);
  met : IsMet l.bytes l.seen l.asked (sides l.fn.todo.items) (frames l.fn.opened.items);
  sound : IsSound (on_top l.next (sides l.todo.items));
  numbers : (low : ℕ) → Rises low (numbers l.fn.opened.items) l.fn.number → Rises low (numbers l.opened.items) l.number;
}

abbrev pub decreases-loop-place : goal.decreases-loop-place
decreases-loop-place l = cost (on_top l.next (sides l.todo.items))
