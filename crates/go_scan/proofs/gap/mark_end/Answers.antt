use Rattle.std.proofs.Common.{◌≡◌, ◌+◌, ℕ, ◌≤◌, refl, arith}
use Rattle.go_tree.proofs.SpaceLemmas.{mark_lies}
use Rattle.go_scan.proofs.SpaceLemmas.{no_space_by_char, no_space_by_none}
use Rattle.go_scan.proofs.gap.mark_end.Goals as goal

first : (at : ℕ) → at ≤ 0 → at ≡ 0
first at h = omega (arith, h)

pub returns-in_err-c-clause-other : goal.returns-in_err-c-clause-other
returns-in_err-c-clause-other c = rw c.from_residual.ensures (no_space_by_none c.args.bytes.now c.args.at c.requires.blank c.requires.slash c.in_err-c.ensures.none)

pub returns-then-c-eq65279-clause-space : goal.returns-then-c-eq65279-clause-space
returns-then-c-eq65279-clause-space c =
    let s = c.in_ok-c.ensures.some in
    let l = mark_lies c.args.bytes.now c.args.at (c.args.at + c.in_ok-c.len) (first c.args.at c.if-at-gt0.false) (rw c.if-c-eq65279.true at s.0) (rw s.1 refl) in
    (l.space, l.behind, l.within)

pub returns-else-c-eq65279-clause-other : goal.returns-else-c-eq65279-clause-other
returns-else-c-eq65279-clause-other c = no_space_by_char c.args.bytes.now c.args.at c.in_ok-c.c c.requires.blank c.requires.slash c.in_ok-c.ensures.some.0 c.if-c-eq65279.false
