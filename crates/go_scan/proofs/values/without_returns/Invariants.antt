use Rattle.std.proofs.Common.{◌≡◌, take}
use Rattle.go_tree.specs.Lexical.LiteralValues.{without_returns}
use Rattle.go_scan.proofs.values.without_returns.Given as goal

abbrev pub invariant-loop-byte : goal.invariant-loop-byte
invariant-loop-byte l = l.kept.items ≡ without_returns (take l.byte-index l.text)
