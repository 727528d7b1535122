-- push_by_types
use Rattle.std.proofs.Common.{◌++◌, map, sym, ap, ◌∙◌}
use Rattle.std.proofs.lemmas.Result.{on_ok_weaker}
use Rattle.go_term.specs.View.{field_of}
use Rattle.go_module.specs.Modules.Module.{file_view}
use Rattle.go_names.specs.Views.{trees_at}
use Rattle.go_report.specs.Members.{each_by, field_member}
use Rattle.go_report.specs.PackageLines.{member_def}
use Rattle.go_report.specs.Report.{line_view}
use Rattle.go_members.proofs.PartLemmas.{listed}
use Rattle.go_members.proofs.fields.push_by_types.Goals as goal

pub returns : goal.returns
returns c =
    let old = map line_view c.args.lines.now.items in
    let line = member_def c.args.stub (file_view c.args.file.now) in
    let types = map field_of c.args.types.now in
    let names = ap trees_at c.deref.ensures.value ∙ c.in_ok-names.ensures in
    on_ok_weaker c.push_fields.result
    (λ pushed. pushed ∙ (λ i. old ++ map line (each_by field_member (names i) (sym (listed types) i))))
    c.push_fields.ensures
