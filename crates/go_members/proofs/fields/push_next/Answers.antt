-- push_next
use Rattle.std.proofs.Common.{◌++◌, map, ap}
use Rattle.go_tree.specs.Tree.{tree_of}
use Rattle.go_term.specs.View.{field_of}
use Rattle.go_module.specs.Modules.Module.{file_view}
use Rattle.go_report.specs.Members.{field_member}
use Rattle.go_report.specs.PackageLines.{member_def}
use Rattle.go_report.specs.Report.{line_view}
use Rattle.go_members.proofs.PartLemmas.{none_left}
use Rattle.go_members.proofs.fields.push_next.Goals as goal

pub returns-in-empty : goal.returns-in-empty
returns-in-empty c = λ names.
    let line = member_def c.args.stub (file_view c.args.file.now) in
    ap (λ more. map line_view c.args.lines.now.items ++ more) (none_left line field_member field_of (tree_of c.args.name.now) names c.args.types.now c.in-empty.len_below)
