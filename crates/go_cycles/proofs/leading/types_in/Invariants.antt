use Rattle.std.proofs.Common.{◌≡◌, ◌++◌, filter, drop}
use Rattle.go_names.specs.Views.{declarations_view}
use Rattle.go_cycles.specs.Leading.{is_type}
use Rattle.go_cycles.proofs.leading.types_in.Given as goal

abbrev pub invariant-loop-declaration : goal.invariant-loop-declaration
invariant-loop-declaration l =
    declarations_view l.types.items ++ filter is_type (declarations_view (drop l.declaration-index l.declarations)) ≡ filter is_type (declarations_view l.declarations)
