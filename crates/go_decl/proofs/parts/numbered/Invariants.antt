use Rattle.std.proofs.Common.{◌≡◌, drop}
use Rattle.go_values.specs.Declared.{declared_as}
use Rattle.go_names.specs.Views.{declarations_view}
use Rattle.go_decl.proofs.parts.numbered.Given as goal

-- the first of all is the first of those that are left
abbrev pub invariant-loop-declaration : goal.invariant-loop-declaration
invariant-loop-declaration l =
    declared_as (declarations_view (drop l.declaration-index l.declarations)) l.d.0 ≡ declared_as (declarations_view l.declarations) l.d.0
