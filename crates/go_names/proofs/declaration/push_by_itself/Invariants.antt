use Rattle.std.proofs.Common.{◌≡◌, ◌++◌, map, drop}
use Rattle.go_tree.specs.Tree.{tree_of}
use Rattle.go_module.specs.Names.Declarations as rule
use Rattle.go_names.specs.Views.{declarations_view, spec_view}
use Rattle.go_names.proofs.declaration.push_by_itself.Given as goal

-- what is pushed, with the declarations of the names left, are those of all names
abbrev pub invariant-loop-name : goal.invariant-loop-name
invariant-loop-name l =
    declarations_view l.list.items ++ map (rule.by_itself (spec_view l.spec)) (map tree_of (drop l.name-index l.name-items)) ≡ declarations_view l.fn.list.items ++ map (rule.by_itself (spec_view l.spec)) (map tree_of l.spec.names.now)
