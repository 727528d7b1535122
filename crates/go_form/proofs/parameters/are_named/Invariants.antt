use Rattle.std.proofs.Common.{◌≡◌, ◌||◌, map, drop}
use Rattle.std.specs.List.{list_any}
use Rattle.go_tree.specs.Tree.{tree_of}
use Rattle.go_form.specs.Families.Parameters.{has_name}
use Rattle.go_form.proofs.parameters.are_named.Given as goal

abbrev pub invariant-loop-param : goal.invariant-loop-param
invariant-loop-param l = (l.named || list_any has_name (map tree_of (drop l.param-index l.params))) ≡ list_any has_name (map tree_of l.params)
