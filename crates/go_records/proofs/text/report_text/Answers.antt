use Rattle.go_report.specs.Report.{PackageReportData, package_view}
use Rattle.go_report.specs.Text.Lines.{line_text, module_fields, verdict_fields}
use Rattle.go_records.proofs.TextLemmas.{behind_lines}
use Rattle.go_records.proofs.text.report_text.Goals as goal

pub returns : goal.returns
returns c =
    let report = c.args.report.now in
    behind_lines line_text (λ (p : PackageReportData). verdict_fields p p.verdict) package_view (module_fields report.path report.version) report.packages.items c.deref.result.now
    c.in_ok-out.out.items c.put_module.new.out.items c.put_packages.new.out.items c.deref.ensures.value c.in_ok-out.ensures.items c.in_ok-put_module.ensures c.in_ok-put_packages.ensures
