use Rattle.std.proofs.Common.{◌≡◌, ap, ◌∙◌}
use Rattle.std.proofs.lemmas.Result.{IfOk-weaker}
use Rattle.std.specs.List.{flat_map}
use Rattle.go_module.specs.Names.Declarations.{Spec}
use Rattle.go_module.specs.Modules.Module.{file_view}
use Rattle.go_names.specs.Views.{specs_view, trees_at}
use Rattle.go_operands.specs.Operands.{expressions_in_parts}
use Rattle.go_judge.specs.HeadersView.{headers_view}
use Rattle.go_expr.specs.Read.{outcome_read}
use Rattle.go_expr.specs.Walker.{outcomes_view}
use Rattle.go_report.specs.Finals.Nodes.{final_among}
use Rattle.go_report.specs.PackageLines.{expr_by, finals_in, written}
use Rattle.go_check.specs.Lines.Finals.{final_in}
use Rattle.go_check.proofs.exprs.found_exprs.Goals as goal

pub returns-clause-lines : goal.returns-clause-lines
returns-clause-lines c =
    let file = c.args.file.now in
    let specs = specs_view file.specs.items in
    let read = outcome_read (outcomes_view c.args.walker.now) in
    let headers = headers_view c.args.judge.now.headers in
    let final : final_in c.in_ok-finals.finals ≡ final_among (finals_in headers read specs) =
    λ i id. (c.in_ok-finals.ensures.finals id ∙ ap (λ list. final_among (finals_in headers read (specs_view list)) id) c.deref.ensures.value) i in
    let nodes : trees_at c.deref-3.result.now ≡ flat_map expressions_in_parts (written specs) =
    ap trees_at c.deref-3.ensures.value ∙ c.in_ok-nodes.ensures ∙ ap (λ list. flat_map expressions_in_parts (written (specs_view list))) c.deref-2.ensures.value in
    IfOk-weaker c.lines_at.result _ _
    (λ lines is. is ∙ (λ i. flat_map (expr_by read (final i) file.stub (file_view file.file.now)) (nodes i)))
    c.lines_at.ensures
