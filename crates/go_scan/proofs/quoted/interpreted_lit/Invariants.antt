use Rattle.std.proofs.Common.{◌≤◌, ◌+◌, ◌-◌, length}
use Rattle.go_tree.specs.Lexical.Literals.{AreCharacters}
use Rattle.go_scan.proofs.quoted.interpreted_lit.Given as goal

abbrev pub invariant-loop-from : goal.invariant-loop-from
invariant-loop-from l = record {
  within : l.at ≤ length l.bytes;
  characters : AreCharacters 34 l.bytes (l.from + 1) l.at;
}

abbrev pub decreases-loop-from : goal.decreases-loop-from
decreases-loop-from l = length l.bytes - l.at
