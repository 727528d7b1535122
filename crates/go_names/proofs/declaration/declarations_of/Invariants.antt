use Rattle.std.proofs.Common.{◌≡◌, ◌++◌, map, drop}
use Rattle.go_module.specs.Names.Declarations as rule
use Rattle.go_names.specs.Views.{all_specs, declarations_view, specs_view}
use Rattle.go_names.proofs.declaration.declarations_of.Given as goal

-- what is pushed, with the declarations of the lists left, are those of all lists
abbrev pub invariant-loop-specs : goal.invariant-loop-specs
invariant-loop-specs l =
    declarations_view l.list.items ++ rule.declarations_in (all_specs (map (λ list. specs_view list.items) (drop l.specs-index l.lists))) ≡ rule.declarations_in (all_specs (map (λ list. specs_view list.items) l.lists))
