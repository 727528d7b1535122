use Rattle.std.proofs.Common.{◌≡◌, ◌++◌, map, drop}
use Rattle.std.specs.List.{flat_map}
use Rattle.go_report.specs.Report.{line_view}
use Rattle.go_module.specs.Modules.Module.{file_view}
use Rattle.go_names.specs.Views.{trees_at}
use Rattle.go_expr.specs.Read.{outcome_read}
use Rattle.go_expr.specs.Walker.{outcomes_view}
use Rattle.go_report.specs.PackageLines.{expr_by}
use Rattle.go_check.specs.Lines.Finals.{final_in}
use Rattle.go_check.proofs.exprs.push_each.Given as goal

-- what is pushed, with the lines of the nodes left, are those of all nodes
abbrev pub invariant-loop-node : goal.invariant-loop-node
invariant-loop-node l =
    let line = expr_by (outcome_read (outcomes_view l.walker)) (final_in l.finals) l.file.stub (file_view l.file.file.now) in
    map line_view l.lines.items ++ flat_map line (trees_at (drop l.node-index l.list)) ≡ map line_view l.fn.lines.items ++ flat_map line (trees_at l.list)
