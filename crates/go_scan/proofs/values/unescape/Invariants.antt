use Rattle.std.proofs.Common.{◌≡◌, ◌++◌, ◌-◌, slice_range}
use Rattle.go_tree.specs.Lexical.LiteralValues.{unescaped}
use Rattle.go_scan.specs.Quoted.{Escapes}
use Rattle.go_scan.proofs.values.unescape.Given as goal

abbrev pub invariant-loop-at : goal.invariant-loop-at
invariant-loop-at l = record {
  escapes : Escapes l.bytes l.close l.at;
  so_far : l.text.items ++ unescaped 0 (slice_range l.bytes l.at l.close) ≡ unescaped 0 (slice_range l.bytes l.from l.close);
}

abbrev pub decreases-loop-at : goal.decreases-loop-at
decreases-loop-at l = l.close - l.at
