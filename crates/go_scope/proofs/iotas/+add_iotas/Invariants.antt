use Rattle.std.proofs.Common.{◌≡◌, ◌+◌, ◌*◌, map, drop}
use Rattle.indexmap.specs.IndexMap.{insert_all}
use Rattle.go_tree.specs.Tree.{tree_of, trees_of, node_count, node_count_of_all}
use Rattle.go_module.specs.Names.Iotas.{iotas_in_parts}
use Rattle.go_module.specs.Scopes.{same_node}
use Rattle.go_scope.proofs.iotas.+add_iotas.Given as goal

abbrev pub decreases-add_iotas : goal.decreases-add_iotas
decreases-add_iotas l = 2 * node_count (tree_of l.node.now)

abbrev pub decreases-add_in_parts : goal.decreases-add_in_parts
decreases-add_in_parts l = 2 * node_count_of_all (trees_of (map tree_of l.parts.now)) + 1

-- the entries so far, with those of the parts left, are those of all
abbrev pub invariant-add_in_parts-loop-n : goal.invariant-add_in_parts-loop-n
invariant-add_in_parts-loop-n l =
    insert_all same_node l.iotas.entries (iotas_in_parts l.specs l.around l.n (trees_of (map tree_of (drop l.n l.parts)))) ≡ insert_all same_node l.fn.iotas.entries (iotas_in_parts l.specs l.around 0 (trees_of (map tree_of l.parts)))
