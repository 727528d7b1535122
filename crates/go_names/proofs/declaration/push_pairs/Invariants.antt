use Rattle.std.proofs.Common.{◌≡◌, ◌++◌, map, drop}
use Rattle.go_tree.specs.Tree.{tree_of}
use Rattle.go_module.specs.Names.Declarations as rule
use Rattle.go_names.specs.Views.{declarations_view, spec_view}
use Rattle.go_names.proofs.declaration.push_pairs.Given as goal

-- what is pushed, with the declarations of the names left, are those of all names
abbrev pub invariant-loop-place : goal.invariant-loop-place
invariant-loop-place l =
    declarations_view l.list.items ++ rule.pairs (spec_view l.spec) (map tree_of (drop l.place l.names)) (map tree_of (drop l.place l.values)) ≡ declarations_view l.fn.list.items ++ rule.pairs (spec_view l.spec) (map tree_of l.names) (map tree_of l.values)
