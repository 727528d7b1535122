use Rattle.std.proofs.Common.{◌≡◌, ◌++◌, map, drop}
use Rattle.std.specs.List.{zip}
use Rattle.go_report.specs.Report.{line_view}
use Rattle.go_names.specs.Views.{trees_at}
use Rattle.go_check.specs.Lines.Found.{import_lines, own_file_view}
use Rattle.go_check.specs.View.{outline_view}
use Rattle.go_check.proofs.defs.push_imports.Given as goal

-- what is pushed, with the lines of the imports left, are those of all imports
abbrev pub invariant-loop-i : goal.invariant-loop-i
invariant-loop-i l =
    map line_view l.lines.items ++ import_lines (outline_view l.outline) (own_file_view l.file) (zip (trees_at (drop l.i l.specs)) (drop l.i l.packages)) ≡ map line_view l.fn.lines.items ++ import_lines (outline_view l.outline) (own_file_view l.file) (zip (trees_at l.specs) l.packages)
