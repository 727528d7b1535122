use Rattle.std.proofs.Common.{◌≡◌, ◌++◌, map, drop}
use Rattle.std.specs.List.{flat_map}
use Rattle.go_tree.specs.Tree.{tree_of}
use Rattle.go_module.specs.Names.Occurrences as rule
use Rattle.go_names.proofs.occurrences.add_each.Given as goal

-- what is found, with what occurs in the nodes left, occurs in all nodes
abbrev pub invariant-loop-node : goal.invariant-loop-node
invariant-loop-node l =
    l.found.items ++ flat_map (rule.names_in l.file l.told_at) (map tree_of (drop l.node-index l.nodes)) ≡ l.fn.found.items ++ flat_map (rule.names_in l.file l.told_at) (map tree_of l.nodes)
