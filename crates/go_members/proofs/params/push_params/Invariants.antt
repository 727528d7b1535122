-- push_params
use Rattle.std.proofs.Common.{◌≡◌, ◌++◌, map, drop}
use Rattle.go_tree.specs.Tree.{tree_of}
use Rattle.go_term.specs.View.{type_of}
use Rattle.go_module.specs.Modules.Module.{file_view}
use Rattle.go_report.specs.Members.{each_by, param_member}
use Rattle.go_report.specs.PackageLines.{member_def}
use Rattle.go_report.specs.Report.{line_view}
use Rattle.go_members.proofs.params.push_params.Given as goal

-- what is pushed, with the lines of the parameters left by the types left, are those of all parameters
abbrev pub invariant-loop-param : goal.invariant-loop-param
invariant-loop-param l =
    let line = member_def l.stub (file_view l.file) in
    map line_view l.lines.items ++ map line (each_by param_member (map tree_of (drop l.param-index l.params)) (map type_of l.left)) ≡ map line_view l.fn.lines.items ++ map line (each_by param_member (map tree_of l.params) (map type_of l.types))
