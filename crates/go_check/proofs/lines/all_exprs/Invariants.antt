use Rattle.std.proofs.Common.{◌≡◌, List, ◌++◌, map, drop}
use Rattle.go_report.specs.Report.{LineData, line_view}
use Rattle.go_report.specs.LineOrder.{AreInOrder}
use Rattle.go_judge.specs.HeadersView.{headers_view}
use Rattle.go_check.specs.Lines.Found.{expr_lines, own_files_view}
use Rattle.go_check.specs.Packages.Book.{standing_of}
use Rattle.go_expr.specs.Read.{outcome_read}
use Rattle.go_expr.specs.Walker.{outcomes_view}
use Rattle.go_check.proofs.lines.all_exprs.Given as goal

-- what is added, before lines of the files left in order, is in order; the judge stays as it is
abbrev pub invariant-loop-file : goal.invariant-loop-file
invariant-loop-file l = record {
  added : (rest : List LineData) → AreInOrder (map (expr_lines (headers_view l.fn.judge.headers) (outcome_read (outcomes_view l.walker))) (own_files_view (drop l.file-index l.files))) rest → AreInOrder (map (expr_lines (headers_view l.fn.judge.headers) (outcome_read (outcomes_view l.walker))) (own_files_view l.files)) (map line_view l.lines.items ++ rest);
  headers : headers_view l.judge.headers ≡ headers_view l.fn.judge.headers;
  standing : standing_of l.judge ≡ standing_of l.fn.judge;
}
