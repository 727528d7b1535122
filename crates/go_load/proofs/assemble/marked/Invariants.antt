use Rattle.std.proofs.Common.{◌≡◌, take}
use Rattle.std.specs.Prelude.{filter}
use Rattle.go_graph.specs.Graph.{is_marked}
use Rattle.go_load.proofs.assemble.marked.Given as goal

abbrev pub invariant-loop-number : goal.invariant-loop-number
invariant-loop-number l = l.list.items ≡ filter (is_marked l.marks) (take l.number-index l.numbers)
