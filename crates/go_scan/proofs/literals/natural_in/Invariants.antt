-- The digits read so far write the value.
use Rattle.std.proofs.Common.{◌≡◌, take}
use Rattle.go_tree.specs.Lexical.Literals.{number_in}
use Rattle.go_scan.specs.Digits.{size_of_base}
use Rattle.go_scan.proofs.literals.natural_in.Given as goal

abbrev pub invariant-loop-byte : goal.invariant-loop-byte
invariant-loop-byte l = l.value ≡ number_in (size_of_base l.base) (take l.byte-index l.digits)
