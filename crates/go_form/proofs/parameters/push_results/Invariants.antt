use Rattle.std.proofs.Common.{◌≡◌, ◌++◌, map, drop}
use Rattle.std.specs.List.{flat_map}
use Rattle.go_tree.specs.Tree.{tree_of}
use Rattle.go_form.specs.Families.Parameters.{variadic_results}
use Rattle.go_form.proofs.parameters.push_results.Given as goal

abbrev pub invariant-loop-result : goal.invariant-loop-result
invariant-loop-result l =
    l.found.items ++ flat_map variadic_results (map tree_of (drop l.result-index l.results)) ≡ l.fn.found.items ++ flat_map variadic_results (map tree_of l.results)
