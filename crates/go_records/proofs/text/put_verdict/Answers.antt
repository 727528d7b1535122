use Rattle.std.proofs.Common.{ap, refl}
use Rattle.std.proofs.lemmas.Result.{on_ok_weaker}
use Rattle.go_report.specs.Report.{package_view, verdict_view}
use Rattle.go_records.proofs.TextLemmas.{accepted_lines, refused_lines}
use Rattle.go_records.proofs.text.put_verdict.Goals as goal

pub returns-in_ok-put_package-in-Accepted : goal.returns-in_ok-put_package-in-Accepted
returns-in_ok-put_package-in-Accepted c =
    let own = c.args.own.now in
    on_ok_weaker c.put_records.result
    (accepted_lines (package_view own) own.verdict c.in-Accepted.records c.in-Accepted.records.lines.items c.in-Accepted.records.named.items c.args.out.now.items c.put_package.new.out.items c.put_records.new.out.items c.in-Accepted.is refl refl c.in_ok-put_package-in-Accepted.ensures)
    c.put_records.ensures

pub returns-in_ok-put_package-in-Refused : goal.returns-in_ok-put_package-in-Refused
returns-in_ok-put_package-in-Refused c =
    let own = c.args.own.now in
    on_ok_weaker c.put_list.result
    (refused_lines (package_view own) own.verdict c.in-Refused.list.items c.deref.result.now c.args.out.now.items c.put_package-in-Refused.new.out.items c.put_list.new.out.items (ap verdict_view c.in-Refused.is) c.deref.ensures.value c.in_ok-put_package-in-Refused.ensures)
    c.put_list.ensures
