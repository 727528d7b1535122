use Rattle.std.proofs.Common.{List, ◌++◌, map, drop}
use Rattle.go_report.specs.Report.{LineData, line_view}
use Rattle.go_report.specs.LineOrder.{AreInOrder}
use Rattle.go_check.specs.Lines.Found.{use_lines, own_files_view}
use Rattle.go_check.specs.Packages.Book.{denotes_by}
use Rattle.go_check.specs.View.{outline_view}
use Rattle.go_check.proofs.lines.all_uses.Given as goal

-- what is added, before lines of the files left in order, is in order
abbrev pub invariant-loop-file : goal.invariant-loop-file
invariant-loop-file l =
    (rest : List LineData) → AreInOrder (map (use_lines (outline_view l.outline) (denotes_by l.book.judge)) (own_files_view (drop l.file-index l.files))) rest → AreInOrder (map (use_lines (outline_view l.outline) (denotes_by l.book.judge)) (own_files_view l.files)) (map line_view l.lines.items ++ rest)
