use Rattle.std.proofs.Common.{◌≡◌, ◌++◌, map, drop}
use Rattle.go_term.specs.View.{type_of}
use Rattle.go_term.proofs.see.copies.Given as goal

abbrev pub invariant-loop-t : goal.invariant-loop-t
invariant-loop-t l = map type_of l.all.items ++ map type_of (drop l.t-index l.terms) ≡ map type_of l.terms
