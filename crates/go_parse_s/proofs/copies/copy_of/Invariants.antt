use Rattle.std.proofs.Common.{◌≡◌, ◌++◌, ◌∷◌, map, drop}
use Rattle.go_tree.specs.Tree.{tree_of}
use Rattle.go_parse_s.proofs.copies.copy_of.Given as goal

abbrev pub invariant-loop-other : goal.invariant-loop-other
invariant-loop-other l = map tree_of l.parts.items ++ map tree_of (drop l.other-index l.others) ≡ tree_of l.first ∷ map tree_of l.others
