use Rattle.std.proofs.Common.{◌≡◌, ◌++◌, drop}
use Rattle.std.specs.List.{flat_map}
use Rattle.go_operands.specs.Operands.{expressions_in_parts}
use Rattle.go_names.specs.Views.{specs_view, trees_at}
use Rattle.go_check.proofs.nodes.written_nodes.Given as goal

-- what is pushed, with the nodes of the specs left, are those of all specs
abbrev pub invariant-loop-spec : goal.invariant-loop-spec
invariant-loop-spec l =
    trees_at l.list.items ++ flat_map expressions_in_parts (specs_view (drop l.spec-index l.spec-items)) ≡ flat_map expressions_in_parts (specs_view l.spec-items)
