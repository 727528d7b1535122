use Rattle.std.proofs.Common.{◌≡◌, ◌+◌, drop, map, ap, ◌∙◌, arith, subst}
use Rattle.std.proofs.lemmas.List.{drop_all}
use Rattle.go_judge.specs.Headers.{Headers}
use Rattle.go_judge.specs.HeadersView.{headers_view}
use Rattle.go_report.specs.Report.{line_view}
use Rattle.go_check.specs.Lines.Found.{expr_lines, own_file_view, own_files_view}
use Rattle.go_check.specs.Lines.Ordered.{AddsInOrder}
use Rattle.go_expr.specs.Read.{outcome_read}
use Rattle.go_expr.specs.Walker.{outcomes_view}
use Rattle.go_decl.proofs.ListLemmas.{drop-step}
use Rattle.go_check.proofs.FoundLemmas.{all_added, one_added}
use Rattle.go_check.proofs.lines.all_exprs.Goals as goal

pub loop-file-preserved : goal.loop-file-preserved
loop-file-preserved c =
    let i = c.loop-file.file-index in
    let files = c.args.files.now in
    let inv = c.loop-file.invariant in
    let read = outcome_read (outcomes_view c.args.walker.now) in
    let headers = headers_view c.args.judge.now.headers in
    let file = own_file_view c.file-item.result in
    let old = map line_view c.loop-file.lines.items in
    let new = map line_view c.add_exprs.new.lines.items in
    let adds = subst (λ (known : Headers). AddsInOrder (expr_lines known read file) old new) inv.headers c.in_ok-add_exprs.ensures.lines in
    record {
      added = one_added (expr_lines headers read) (own_files_view files) (own_files_view (drop i files)) (own_files_view (drop (i + 1) files)) file
          (expr_lines headers read file) old new
          (ap own_files_view (drop-step files i c.file-item.result (omega arith) c.file-item.is)) (λ j. expr_lines headers read file) adds inv.added;
      headers = c.add_exprs.ensures.headers ∙ inv.headers;
      standing = c.add_exprs.ensures.standing ∙ inv.standing;
    }

pub returns-clause-lines : goal.returns-clause-lines
returns-clause-lines c =
    all_added (expr_lines (headers_view c.args.judge.now.headers) (outcome_read (outcomes_view c.args.walker.now))) (own_files_view c.args.files.now) (own_files_view (drop c.loop-file.file-index c.args.files.now)) (map line_view c.loop-file.lines.items)
    (ap own_files_view (drop_all c.loop-file.file-index c.args.files.now c.loop-file-test.false)) c.loop-file.invariant.added
