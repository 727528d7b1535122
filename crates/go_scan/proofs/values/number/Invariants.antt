use Rattle.std.proofs.Common.{◌≡◌, take}
use Rattle.go_tree.specs.Lexical.Literals.{number_in}
use Rattle.go_scan.specs.Escapes.{base_of}
use Rattle.go_scan.proofs.values.number.Given as goal

abbrev pub invariant-loop-byte : goal.invariant-loop-byte
invariant-loop-byte l = l.value ≡ number_in (base_of l.kind) (take l.byte-index l.digits)
