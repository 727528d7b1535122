use Rattle.std.proofs.Common.{◌≡◌, ◌++◌, take}
use Rattle.std.specs.List.{flat_map}
use Rattle.go_report.specs.Report.{package_view}
use Rattle.go_report.specs.Text.Lines.{line_text, verdict_fields}
use Rattle.go_records.proofs.text.put_packages.Given as goal

abbrev pub invariant-loop-own : goal.invariant-loop-own
invariant-loop-own l = l.out.items ≡ l.initial.out.items ++ flat_map (λ own. flat_map line_text (verdict_fields (package_view own) (package_view own).verdict)) (take l.own-index l.packages)
