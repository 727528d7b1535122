use Rattle.std.proofs.Common.{◌+◌, ◌-◌, refl, ap, ◌∙◌}
use Rattle.go_parse_x.proofs.LevelLemmas.{closed_within}
use Rattle.go_parse_x.proofs.heights.Levels.leaves.Goals as goal

pub returns : goal.returns
returns c = λ ms around here all.
    let old = c.args.self.now in
    let others = c.saturating_sub-others.ensures ∙ ap (λ n. n - old.inner.passing) c.saturating_sub.ensures in
    closed_within _ old.inner c.args.level old.outer.items old.total ms around here all refl (rw c.in_ok-passing.ensures refl) (c.in_ok-total.ensures ∙ ap (λ n. n + 1) others)
