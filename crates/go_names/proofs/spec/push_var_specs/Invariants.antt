use Rattle.std.proofs.Common.{◌≡◌, ◌++◌, map, drop}
use Rattle.go_tree.specs.Tree.{tree_of}
use Rattle.go_module.specs.Names.Declarations as rule
use Rattle.go_names.specs.Views.{specs_view}
use Rattle.go_names.proofs.spec.push_var_specs.Given as goal

-- what is pushed, with the specs of the nodes left, are those of all nodes
abbrev pub invariant-loop-node : goal.invariant-loop-node
invariant-loop-node l =
    specs_view l.specs.items ++ map (rule.var_spec l.file) (map tree_of (drop l.node-index l.nodes)) ≡ specs_view l.fn.specs.items ++ map (rule.var_spec l.file) (map tree_of l.nodes)
