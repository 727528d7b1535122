-- push_lists
use Rattle.std.proofs.Common.{◌≡◌, ◌++◌, map, drop}
use Rattle.std.specs.List.{flat_map}
use Rattle.go_tree.specs.Tree.{tree_of}
use Rattle.go_term.specs.View.{type_of}
use Rattle.go_module.specs.Modules.Module.{file_view}
use Rattle.go_report.specs.Members.{list_members}
use Rattle.go_report.specs.PackageLines.{member_def}
use Rattle.go_report.specs.Report.{line_view}
use Rattle.go_members.proofs.params.push_lists.Given as goal

-- what is pushed, with the lines of the lists left, are those of all lists
abbrev pub invariant-loop-list : goal.invariant-loop-list
invariant-loop-list l =
    let line = member_def l.stub (file_view l.file) in
    let members = list_members (map type_of l.types) in
    map line_view l.lines.items ++ map line (flat_map members (map tree_of (drop l.list-index l.lists))) ≡ map line_view l.fn.lines.items ++ map line (flat_map members (map tree_of l.lists))
