use Rattle.std.proofs.Common.{◌≡◌, ◌++◌, drop}
use Rattle.go_module.specs.Names.PackageBlock as spec
use Rattle.go_names.specs.Views.{declarations_view}
use Rattle.go_scope.proofs.package_block.package_block.Given as goal

-- what is pushed, with the regions of the declarations left, are those of all declarations
abbrev pub invariant-loop-declaration : goal.invariant-loop-declaration
invariant-loop-declaration l =
    l.block.items ++ spec.block_of l.place (declarations_view (drop l.declaration-index l.declarations)) ≡ spec.block_of l.place (declarations_view l.declarations)
