use Rattle.std.proofs.Common.{◌≡◌, ◌≤◌, ◌+◌, length, map, drop}
use Rattle.go_tree.specs.Tree.{tree_of, trees_of}
use Rattle.go_form.specs.Families.Nodes.{places_where}
use Rattle.go_form.specs.Families.SwitchStatements.{is_default_clause}
use Rattle.go_form.proofs.switch_statements.defaults.Given as goal

abbrev pub invariant-loop-node : goal.invariant-loop-node
invariant-loop-node l = record {
  rest : l.count + length (places_where is_default_clause (trees_of (map tree_of (drop l.node-index l.nodes)))) ≡ length (places_where is_default_clause (trees_of (map tree_of l.nodes)));
  within : l.count ≤ l.node-index;
}
