use Rattle.std.proofs.Common.{◌≡◌, ◌++◌, drop, map}
use Rattle.std.specs.List.{flat_map}
use Rattle.go_tree.specs.Tree.{tree_of}
use Rattle.go_names.specs.Views.{trees_at}
use Rattle.go_obligations.proofs.ComponentLemmas.{of_elem}
use Rattle.go_obligations.proofs.components.types_of_methods.Given as goal

-- what is pushed, with the types of the elements left, are those of all elements
abbrev pub invariant-loop-elem : goal.invariant-loop-elem
invariant-loop-elem l =
    trees_at l.list.items ++ flat_map of_elem (map tree_of (drop l.elem-index l.elem-items)) ≡ flat_map of_elem (map tree_of l.elem-items)
