use Rattle.std.proofs.Common.{◌≡◌, ◌++◌, List, ℕ, drop}
use Rattle.std.specs.List.{flat_map}
use Rattle.go_tree.specs.declared.node.NodeId.{NodeId}
use Rattle.go_cycles.specs.Places.{place_named, placed_by}
use Rattle.go_cycles.specs.Shapes.{denoted_by}
use Rattle.go_cycles.proofs.graph.places_named.Given as goal

-- the places so far, with those of the names left, are those of all names
abbrev pub invariant-loop-name : goal.invariant-loop-name
invariant-loop-name l =
    let named : NodeId → List ℕ = λ name. place_named (placed_by l.places.entries) (denoted_by l.scopes name) in
    l.list ++ flat_map named (drop l.name-index l.names) ≡ flat_map named l.names
