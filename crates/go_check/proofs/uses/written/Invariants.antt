use Rattle.std.proofs.Common.{◌≡◌, ◌++◌, drop}
use Rattle.go_report.specs.PackageLines.{written}
use Rattle.go_names.specs.Views.{specs_view}
use Rattle.go_check.proofs.uses.written.Given as goal

-- those so far, with those of the specs left, are all that are written
abbrev pub invariant-loop-spec : goal.invariant-loop-spec
invariant-loop-spec l =
    specs_view l.list.items ++ written (specs_view (drop l.spec-index l.specs)) ≡ written (specs_view l.specs)
