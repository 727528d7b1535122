use Rattle.std.proofs.Common.{◌≡◌, ◌<◌, ◌+◌, ◌∙◌, arith}
use Rattle.go_parse_s.specs.Counted.{capped}
use Rattle.go_parse_s.proofs.CountLemmas.{one_more}
use Rattle.go_parse_s.proofs.copy_count.and_one.Goals.{then-all-eq0, else-all-eq0}
use Rattle.go_parse_s.proofs.copy_count.and_one.Goals as goal

pub returns : goal.returns
returns c = λ ts t h k.
    let none : c.args.all.nodes ≡ 0 → c.if-all-eq0.result ≡ 0 = λ e.
    elim c.if-all-eq0.branch [ then-all-eq0 w ↦ w.result-is | else-all-eq0 w ↦ absurd (w.if-all-eq0.false e) ] in
    let some : 0 < c.args.all.nodes → c.if-all-eq0.result ≡ capped (c.args.all.list + c.args.one.nodes) = λ more.
    elim c.if-all-eq0.branch [ then-all-eq0 w ↦ absurd (let e = w.if-all-eq0.true in omega arith) | else-all-eq0 w ↦ w.result-is ∙ w.saturating_add-else-all-eq0.ensures ] in
    one_more c.args.all c.args.one _ ts t h k c.saturating_add.ensures none some c.saturating_add-2.ensures
