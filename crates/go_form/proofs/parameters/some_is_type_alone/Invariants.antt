use Rattle.std.proofs.Common.{◌≡◌, ◌||◌, map, drop}
use Rattle.std.specs.List.{list_any}
use Rattle.go_tree.specs.Tree.{tree_of}
use Rattle.go_form.specs.Families.Parameters.{is_type_alone}
use Rattle.go_form.proofs.parameters.some_is_type_alone.Given as goal

abbrev pub invariant-loop-param : goal.invariant-loop-param
invariant-loop-param l = (l.alone || list_any is_type_alone (map tree_of (drop l.param-index l.params))) ≡ list_any is_type_alone (map tree_of l.params)
