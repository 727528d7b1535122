use Rattle.std.proofs.Common.{◌≡◌, ◌+◌, ◌<◌, ◌^◌, map, length, get_or, ap, ◌∙◌, subst, sym}
use Rattle.std.proofs.lemmas.List.{with_items_is}
use Rattle.std.specs.List.{AllByRecursion}
use Rattle.std.specs.Vec.{with_items}
use Rattle.go_same.specs.Joins.{raised_part}
use Rattle.go_same.proofs.RaiseLemmas.{mapped-length, within-holds, within-next, within-past}
use Rattle.go_same.proofs.join.raise_unions.Goals as goal

pub raise_parts-requires : goal.raise_parts-requires
raise_parts-requires c = subst (AllByRecursion (λ p. p.opened + 1 < 2 ^ 32)) (sym c.deref_mut.ensures.value) (within-holds (λ u. u.items) raised_part c.loop-u.u-index c.args.unions.now c.loop-u.unions c.u-item.result c.loop-u.invariant (λ p. p.opened + 1 < 2 ^ 32) c.loop-u-test.true c.requires)

pub loop-u-preserved : goal.loop-u-preserved
loop-u-preserved c =
    let v = get_or c.loop-u.unions c.loop-u.u-index c.u-item.result in
    let made : c.raise_parts.new.parts ≡ map raised_part v.items = c.raise_parts.ensures ∙ ap (map raised_part) c.deref_mut.ensures.value in
    let long : length c.raise_parts.new.parts ≡ v.len = ap length made ∙ mapped-length raised_part v.items ∙ sym v.ok.0 in
    within-next (λ u. u.items) raised_part c.loop-u.u-index c.args.unions.now c.loop-u.unions c.u-item.result c.loop-u.invariant
    (with_items v c.raise_parts.new.parts) c.loop-u-test.true (with_items_is v c.raise_parts.new.parts long ∙ made)

pub returns : goal.returns
returns c = within-past (λ u. u.items) raised_part c.loop-u.u-index c.args.unions.now c.loop-u.unions c.loop-u.invariant c.loop-u-test.false
