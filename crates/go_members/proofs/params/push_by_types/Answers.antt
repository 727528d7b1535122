-- push_by_types
use Rattle.std.proofs.Common.{map, ◌∙◌}
use Rattle.std.proofs.lemmas.Result.{on_ok_weaker}
use Rattle.go_tree.specs.Tree.{tree_of}
use Rattle.go_term.specs.View.{type_of}
use Rattle.go_module.specs.Modules.Module.{file_view}
use Rattle.go_report.specs.PackageLines.{member_def}
use Rattle.go_report.specs.Report.{line_view}
use Rattle.go_members.proofs.PartLemmas.{both_lists}
use Rattle.go_members.proofs.params.push_by_types.Goals as goal

pub returns : goal.returns
returns c =
    let whole = both_lists (member_def c.args.stub (file_view c.args.file.now)) (tree_of c.args.signature.now)
    (tree_of c.first_part.result.now) (map tree_of c.all_but_first.result.now) (map type_of c.args.params.now) (map type_of c.args.results.now)
    (map line_view c.args.lines.now.items) (map line_view c.push_list.new.lines.items)
    c.first_part.ensures c.all_but_first.ensures c.in_ok-push_list.ensures in
    on_ok_weaker c.push_lists.result (λ pushed. pushed ∙ whole) c.push_lists.ensures
