use Rattle.std.proofs.Common.{◌≡◌, map, take}
use Rattle.go_term.specs.Sizes.{size_of}
use Rattle.go_term.specs.View.{type_of}
use Rattle.go_subst.proofs.substitution.sizes_of.Given as goal

abbrev pub invariant-loop-t : goal.invariant-loop-t
invariant-loop-t l = l.sizes.items ≡ map (λ t. size_of (type_of t)) (take l.t-index l.terms)
