use Rattle.std.proofs.Common.{◌≡◌, ◌++◌, drop}
use Rattle.go_module.specs.Names.Declarations as rule
use Rattle.go_names.specs.Views.{declarations_view, specs_view}
use Rattle.go_names.proofs.declaration.push_all.Given as goal

-- what is pushed, with the declarations of the specs left, are those of all specs
abbrev pub invariant-loop-spec : goal.invariant-loop-spec
invariant-loop-spec l =
    declarations_view l.list.items ++ rule.declarations_in (specs_view (drop l.spec-index l.specs)) ≡ declarations_view l.fn.list.items ++ rule.declarations_in (specs_view l.specs)
