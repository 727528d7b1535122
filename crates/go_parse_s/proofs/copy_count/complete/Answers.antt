use Rattle.std.proofs.Common.{◌≡◌, ◌<◌, ◌⊎◌, inl, inr}
use Rattle.go_parse_s.proofs.CountLemmas.{kept_alone, given_copy}
use Rattle.go_parse_s.proofs.copy_count.complete.Goals.{then-spec-eq1-via-then-spec-eq1, then-spec-eq1-via-else-spec-eq1+then-spec-gt0, then-spec-eq1-via-else-spec-eq1+else-spec-gt0+then-list-eq0}
use Rattle.go_parse_s.proofs.copy_count.complete.Goals as goal

pub returns-then-spec-eq1 : goal.returns-then-spec-eq1
returns-then-spec-eq1 c = λ t before h q.
    let why : (c.args.spec.nodes ≡ 1) ⊎ ((0 < c.args.spec.list) ⊎ (c.args.list ≡ 0)) =
    elim c.then-spec-eq1.branch [
      | then-spec-eq1-via-then-spec-eq1 w ↦ inl w.if-spec-eq1.true
      | then-spec-eq1-via-else-spec-eq1+then-spec-gt0 w ↦ inr (inl w.if-spec-gt0.true)
      | then-spec-eq1-via-else-spec-eq1+else-spec-gt0+then-list-eq0 w ↦ inr (inr w.if-list-eq0.true)
    ] in
    kept_alone c.args.spec t c.args.list before why h q

pub returns : goal.returns
returns c = λ t before h q. given_copy c.args.spec _ t c.args.list before c.if-spec-eq1.false c.if-spec-gt0.false c.if-list-eq0.false h q c.saturating_add-copy.ensures c.saturating_add.ensures c.saturating_add-2.ensures
