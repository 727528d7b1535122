use Rattle.std.proofs.Common.{true, false}
use Rattle.go_records.proofs.VerdictLemmas.{is_beyond, not_beyond}
use Rattle.go_records.proofs.status.verdict.Goals as goal

pub returns-then-some_has_beyond-clause-verdict : goal.returns-then-some_has_beyond-clause-verdict
returns-then-some_has_beyond-clause-verdict c =
    is_beyond c.args.report.now c.deref.result.now c.some_has_beyond.result c.deref.ensures.value c.some_has_beyond.ensures c.if-some_has_beyond.true

pub returns-then-all_accepted-clause-verdict : goal.returns-then-all_accepted-clause-verdict
returns-then-all_accepted-clause-verdict c =
    not_beyond c.args.report.now c.deref.result.now c.deref-else-some_has_beyond.result.now c.some_has_beyond.result c.all_accepted.result true
    c.deref.ensures.value c.some_has_beyond.ensures c.if-some_has_beyond.false c.deref-else-some_has_beyond.ensures.value c.all_accepted.ensures c.if-all_accepted.true

pub returns-else-all_accepted-clause-verdict : goal.returns-else-all_accepted-clause-verdict
returns-else-all_accepted-clause-verdict c =
    not_beyond c.args.report.now c.deref.result.now c.deref-else-some_has_beyond.result.now c.some_has_beyond.result c.all_accepted.result false
    c.deref.ensures.value c.some_has_beyond.ensures c.if-some_has_beyond.false c.deref-else-some_has_beyond.ensures.value c.all_accepted.ensures c.if-all_accepted.false
