use Rattle.std.proofs.Common.{◌≡◌, ◌++◌, drop}
use Rattle.std.specs.List.{flat_map}
use Rattle.go_module.specs.Names.Occurrences as rule
use Rattle.go_names.specs.Views.{specs_view}
use Rattle.go_names.proofs.occurrences.names_in_specs.Given as goal

-- what is found, with what occurs in the specs left, occurs in all specs
abbrev pub invariant-loop-spec : goal.invariant-loop-spec
invariant-loop-spec l =
    l.found.items ++ flat_map rule.names_in_parts (specs_view (drop l.spec-index l.specs)) ≡ flat_map rule.names_in_parts (specs_view l.specs)
