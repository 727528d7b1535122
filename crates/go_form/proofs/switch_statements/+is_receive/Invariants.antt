use Rattle.go_tree.specs.Tree.{tree_of, node_count}
use Rattle.go_form.proofs.switch_statements.+is_receive.Given as goal

abbrev pub decreases-is_receive : goal.decreases-is_receive
decreases-is_receive l = node_count (tree_of l.node.now)
