-- push_signature
use Rattle.std.proofs.Common.{◌++◌, map, ap, ◌∙◌}
use Rattle.std.proofs.lemmas.Result.{on_ok_weaker}
use Rattle.go_tree.specs.Tree.{tree_of}
use Rattle.go_term.specs.Types.{signature_parts}
use Rattle.go_term.specs.View.{type_of}
use Rattle.go_module.specs.Modules.Module.{file_view}
use Rattle.go_report.specs.Members.{signature_members}
use Rattle.go_report.specs.PackageLines.{member_def}
use Rattle.go_report.specs.Report.{line_view}
use Rattle.go_members.proofs.PartLemmas.{parts_of_function}
use Rattle.go_members.proofs.params.push_signature.Goals as goal

pub returns : goal.returns
returns c =
    let line = member_def c.args.stub (file_view c.args.file.now) in
    let parts = (λ i. signature_parts (map type_of (c.deref.ensures.value i)) (map type_of (c.deref-2.ensures.value i))) ∙ parts_of_function c.args.f.now in
    on_ok_weaker c.push_by_types.result
    (λ pushed. pushed ∙ ap (λ ps. map line_view c.args.lines.now.items ++ map line (signature_members (tree_of c.args.signature.now) ps)) parts)
    c.push_by_types.ensures
