use Rattle.std.proofs.Common.{◌≡◌, ◌+◌, ◌≤◌, length, take}
use Rattle.go_tree.specs.Height.{height_of, counted, left}
use Rattle.go_tree.proofs.token_height.height.Given as goal

abbrev pub invariant-loop-i : goal.invariant-loop-i
invariant-loop-i l = (l.behind.count + left l.behind.closed l.behind.separated (counted (take l.i l.tokens)).marks ≡ height_of l.tokens) × (l.behind.count + l.i ≤ length l.tokens) × (l.behind.closed + l.i ≤ length l.tokens) × (l.i ≤ length l.tokens)

abbrev pub decreases-loop-i : goal.decreases-loop-i
decreases-loop-i l = l.i
