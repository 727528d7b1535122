use Rattle.std.proofs.Common.{◌≡◌, ◌++◌, map, drop}
use Rattle.std.specs.List.{flat_map}
use Rattle.go_report.specs.Report.{line_view}
use Rattle.go_module.specs.Modules.Module.{file_view}
use Rattle.go_names.specs.Views.{declarations_view}
use Rattle.go_expr.specs.Read.{outcome_read}
use Rattle.go_expr.specs.Walker.{outcomes_view}
use Rattle.go_report.specs.PackageLines.{def_by}
use Rattle.go_check.proofs.defs.push_declarations.Given as goal

-- what is pushed, with the lines of the declarations left, are those of all declarations
abbrev pub invariant-loop-declaration : goal.invariant-loop-declaration
invariant-loop-declaration l =
    let line = def_by (outcome_read (outcomes_view l.book.walker)) l.file.stub (file_view l.file.file.now) in
    map line_view l.lines.items ++ flat_map line (declarations_view (drop l.declaration-index l.declarations)) ≡ map line_view l.fn.lines.items ++ flat_map line (declarations_view l.declarations)
