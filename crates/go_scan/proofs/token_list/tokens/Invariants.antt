use Rattle.std.proofs.Common.{◌≤◌, length}
use Rattle.go_scan.specs.Weight.{scan_weight}
use Rattle.go_scan.proofs.ScanLemmas.{Taken}
use Rattle.go_scan.proofs.token_list.tokens.Given as goal

abbrev pub invariant-loop-token : goal.invariant-loop-token
invariant-loop-token l = record {
  within : l.at ≤ length l.bytes;
  taken : Taken l.bytes l.at l.last l.tokens.items;
}

abbrev pub decreases-loop-token : goal.decreases-loop-token
decreases-loop-token l = scan_weight (length l.bytes) l.at l.last
