-- copies
use Rattle.std.proofs.Common.{◌≡◌, ◌++◌, map, drop}
use Rattle.go_term.specs.View.{type_of}
use Rattle.go_members.proofs.methods.copies.Given as goal

-- what is pushed, with the types left, are all types
abbrev pub invariant-loop-term : goal.invariant-loop-term
invariant-loop-term l = map type_of l.list.items ++ map type_of (drop l.term-index l.terms) ≡ map type_of l.terms
