use Rattle.std.proofs.Common.{◌≡◌, ◌++◌, List, map, ap, ◌∙◌, subst}
use Rattle.std.proofs.lemmas.List.{map-append}
use Rattle.std.proofs.lemmas.Result.{IfOk-weaker}
use Rattle.go_report.specs.declared.lines.Line.{Line}
use Rattle.go_report.specs.LineOrder.{AreInOrder}
use Rattle.go_model.specs.Outcomes.Walked.{AreWalked}
use Rattle.go_report.specs.Report.{LineData, line_view}
use Rattle.go_judge.specs.Headers.{Headers}
use Rattle.go_expr.specs.Read.{outcome_read}
use Rattle.go_check.specs.Lines.Found.{expr_lines, nodes_of_files, own_files_view}
use Rattle.go_check.specs.Packages.Book.{denotes_by}
use Rattle.go_expr.specs.Walker.{outcomes_view}
use Rattle.go_check.specs.View.{outline_view}
use Rattle.go_check.proofs.FoundLemmas.{are_lines}
use Rattle.go_check.proofs.ReadLemmas.{defs_same, exprs_same}
use Rattle.go_check.proofs.ValueLemmas.{nodes_are}
use Rattle.go_check.proofs.lines.lines_of.Goals as goal

pub returns-clause-lines : goal.returns-clause-lines
returns-clause-lines c =
    let defs : List Line = c.in_ok-defs.defs.items in
    let uses : List Line = c.in_ok-uses.uses.items in
    let exprs : List Line = c.in_ok-exprs.exprs.items in
    let outline = outline_view c.args.outline.now in
    let outcomes = outcomes_view c.args.book.now.walker in
    let files = own_files_view c.args.files.now in
    let views : map line_view (defs ++ (uses ++ exprs)) ≡ map line_view defs ++ (map line_view uses ++ map line_view exprs) =
    map-append line_view defs (uses ++ exprs) ∙ ap (λ (l : List LineData). map line_view defs ++ l) (map-append line_view uses exprs) in
    IfOk-weaker c.joined.result _ _
    (λ lines is naming headers k p same known all.
    let walked : AreWalked naming headers (nodes_of_files files) outcomes = subst (λ nodes. AreWalked naming headers nodes outcomes) (nodes_are files p same) all in
    let found : AreInOrder (map (expr_lines headers (outcome_read outcomes)) files) (map line_view exprs) =
    subst (λ (hs : Headers). AreInOrder (map (expr_lines hs (outcome_read outcomes)) files) (map line_view exprs)) known c.in_ok-exprs.ensures.lines in
    are_lines outline k p (denotes_by c.args.book.now.judge) naming headers files
    (map line_view defs) (map line_view uses) (map line_view exprs) (map line_view lines.items) same
    (subst (λ (l : List (List LineData)). AreInOrder l (map line_view defs)) (defs_same naming headers outcomes files walked outline) c.in_ok-defs.ensures)
    c.in_ok-uses.ensures
    (subst (λ (l : List (List LineData)). AreInOrder l (map line_view exprs)) (exprs_same naming headers outcomes files walked) found)
    (ap (map line_view) is ∙ views))
    c.joined.ensures
