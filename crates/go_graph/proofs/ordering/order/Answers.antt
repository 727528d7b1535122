use Rattle.std.proofs.Common.{◌≡◌, ◌<◌, ◌≤◌, ℕ, List, length, get_or, sym, ap, ◌∙◌, subst, arith}
use Rattle.std.specs.Prelude.{◌↔◌}
use Rattle.std.proofs.lemmas.Map.Keys.{le_from_not_gt}
use Rattle.go_graph.specs.Graph.{row_at}
use Rattle.go_graph.specs.OpenEdges.{IsIn, IsUnderWay, Closes, times}
use Rattle.go_graph.proofs.OpenEdgeLemmas.{begins, counted, goes_on, ends, others_of, has_some}
use Rattle.go_graph.proofs.ordering.order.Goals as goal

pub loop-next-init : goal.loop-next-init
loop-next-init c =
    begins c.args.graph.now c.in_ok-counts.counts.items c.in_ok-ready.ready c.new-order.result.items c.new-order.ensures.items c.in_ok-counts.ensures
    (subst (λ (xs : List ℕ). (v : ℕ) → IsIn c.in_ok-ready.ready v ↔ ((v < length xs) × (get_or xs v 0 ≡ 0))) c.deref.ensures.value c.in_ok-ready.ensures)

pub close-requires : goal.close-requires
close-requires c = λ q.
    let g = c.args.graph.now in
    let rows = c.in_ok-predecessors.predecessors.items in
    let row : c.row_at.result.now ≡ row_at rows c.in-Some.next = c.row_at.ensures ∙ ap (λ (rs : List (List ℕ)). row_at rs c.in-Some.next) c.deref-in-Some.ensures.value in
    subst (λ (xs : List ℕ). times q xs ≤ get_or c.loop-next.counts.items q 0) (sym row)
    (counted g rows c.loop-next.counts.items c.loop-next.ready c.loop-next.order.items c.in-Some.next c.in_ok-predecessors.ensures.exact c.loop-next.invariant c.in-Some.ensures.member q)

pub loop-next-preserved : goal.loop-next-preserved
loop-next-preserved c =
    let g = c.args.graph.now in
    let rows = c.in_ok-predecessors.predecessors.items in
    let next = c.in-Some.next in
    let counts = c.loop-next.counts.items in
    let after = c.close.new.counts.items in
    let mid = c.pop_first.new.self in
    let row : c.row_at.result.now ≡ row_at rows next = c.row_at.ensures ∙ ap (λ (rs : List (List ℕ)). row_at rs next) c.deref-in-Some.ensures.value in
    let did = subst (λ (xs : List ℕ). Closes xs counts after mid c.close.new.ready) row c.in_ok-close.ensures in
    subst (λ (xs : List ℕ). IsUnderWay g after c.close.new.ready xs) (sym c.in_ok-push.ensures.items)
    (goes_on g rows counts after c.loop-next.ready mid c.close.new.ready c.loop-next.order.items next
    c.in_ok-predecessors.ensures.exact c.loop-next.invariant c.in-Some.ensures.member (λ q h. le_from_not_gt next q (c.in-Some.ensures.least q h))
    (others_of c.loop-next.ready mid next c.in-Some.ensures.updates) did)

pub returns : goal.returns
returns c =
    let none : 0 < length c.loop-next.ready.keys → ⊥ = λ some. cc (c.in_default.ensures.variant.1 (omega arith)) in
    ends c.args.graph.now c.loop-next.counts.items c.loop-next.ready c.loop-next.order.items c.loop-next.invariant (λ v h. none (has_some c.loop-next.ready v h))
