use Rattle.std.proofs.Common.{◌≡◌, ◌++◌, map, drop}
use Rattle.std.specs.List.{flat_map}
use Rattle.go_report.specs.Report.{line_view}
use Rattle.go_module.specs.Modules.Module.{file_view}
use Rattle.go_report.specs.PackageLines.{occurrence_uses}
use Rattle.go_check.specs.Packages.Book.{denotes_by}
use Rattle.go_check.specs.View.{outline_view}
use Rattle.go_check.proofs.uses.push_occurrences.Given as goal

-- what is pushed, with the uses left, are all uses
abbrev pub invariant-loop-occurrence : goal.invariant-loop-occurrence
invariant-loop-occurrence l =
    map line_view l.lines.items ++ flat_map (occurrence_uses (outline_view l.outline) l.file.stub (file_view l.file.file.now) (denotes_by l.book.judge)) (drop l.occurrence-index l.found) ≡ map line_view l.fn.lines.items ++ flat_map (occurrence_uses (outline_view l.outline) l.file.stub (file_view l.file.file.now) (denotes_by l.book.judge)) l.found
