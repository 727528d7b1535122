use Rattle.std.proofs.Common.{◌≡◌, ◌++◌, map, take}
use Rattle.std.specs.List.{flat_map}
use Rattle.go_report.specs.Report.{line_view, named_view}
use Rattle.go_report.specs.Text.Lines.{line_fields, line_text}
use Rattle.go_records.proofs.text.put_package_lines.Given as goal

abbrev pub invariant-loop-line : goal.invariant-loop-line
invariant-loop-line l = l.out.items ≡ l.initial.out.items ++ flat_map (λ line. line_text (line_fields (map named_view l.named) (line_view line))) (take l.line-index l.lines)
