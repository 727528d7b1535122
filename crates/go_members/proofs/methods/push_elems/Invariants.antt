-- push_elems
use Rattle.std.proofs.Common.{◌≡◌, ◌++◌, map, drop}
use Rattle.go_tree.specs.Tree.{tree_of}
use Rattle.go_term.specs.View.{elem_of}
use Rattle.go_module.specs.Modules.Module.{file_view}
use Rattle.go_report.specs.Members.{each_by, elem_members}
use Rattle.go_report.specs.PackageLines.{member_def}
use Rattle.go_report.specs.Report.{line_view}
use Rattle.go_members.proofs.methods.push_elems.Given as goal

-- what is pushed, with the lines of the elements left by the types left, are those of all elements
abbrev pub invariant-loop-elem : goal.invariant-loop-elem
invariant-loop-elem l =
    let line = member_def l.stub (file_view l.file) in
    map line_view l.lines.items ++ map line (each_by elem_members (map tree_of (drop l.elem-index l.elems)) (map elem_of l.left)) ≡ map line_view l.fn.lines.items ++ map line (each_by elem_members (map tree_of l.elems) (map elem_of l.types))
