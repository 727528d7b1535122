-- push_fields
use Rattle.std.proofs.Common.{◌≡◌, ◌++◌, map, drop}
use Rattle.go_term.specs.View.{field_of}
use Rattle.go_module.specs.Modules.Module.{file_view}
use Rattle.go_names.specs.Views.{trees_at}
use Rattle.go_report.specs.Members.{each_by, field_member}
use Rattle.go_report.specs.PackageLines.{member_def}
use Rattle.go_report.specs.Report.{line_view}
use Rattle.go_members.proofs.fields.push_fields.Given as goal

-- what is pushed, with the lines of the names left by the types left, are those of all names
abbrev pub invariant-loop-name : goal.invariant-loop-name
invariant-loop-name l =
    let line = member_def l.stub (file_view l.file) in
    map line_view l.lines.items ++ map line (each_by field_member (trees_at (drop l.name-index l.names)) (map field_of l.left)) ≡ map line_view l.fn.lines.items ++ map line (each_by field_member (trees_at l.names) (map field_of l.types))
