use Rattle.std.proofs.Common.{◌≡◌, ◌<◌, ◌⊎◌, ℕ, All, Contains, List, arith, length, refl, subst, sym, true}
use Rattle.go_graph.specs.Graph.{is_marked}
use Rattle.go_graph.proofs.MarkLemmas.{search_begins, search_goes_on, search_ends}
use Rattle.go_graph.proofs.PlaceLemmas.{row_below}
use Rattle.go_graph.proofs.reach.reached.Goals as goal

pub loop-vertex-init : goal.loop-vertex-init
loop-vertex-init c =
    search_begins c.args.graph.now c.args.starts.now _ c.requires.starts (c.in_ok-to_vec.ensures.items_if_clones_equal (λ b x same. same)) c.in_ok-marked.ensures

pub mark_all-requires : goal.mark_all-requires
mark_all-requires c =
    let g = c.args.graph.now in
    let n = length c.loop-vertex.search.marks.items in
    subst (λ (row : List ℕ). All (λ b. b < n) row) (sym c.row_at.ensures) (row_below g c.in-Some.vertex n c.requires.graph c.loop-vertex.invariant.length_is)

pub loop-vertex-preserved : goal.loop-vertex-preserved
loop-vertex-preserved c =
    let g = c.args.graph.now in
    let did = c.in_ok-mark_all.ensures in
    let row = c.row_at.ensures in
    search_goes_on g (λ s. is_marked c.args.starts.now s ≡ true) c.in-Some.vertex c.loop-vertex.search _ c.mark_all.new.self refl c.in-Some.ensures.items c.loop-vertex.invariant did.extends
    (λ v e. subst (λ (xs : List ℕ). (is_marked c.loop-vertex.search.marks.items v ≡ true) ⊎ Contains xs v) row (did.only v e))
    (λ v leads. did.all v (subst (λ (xs : List ℕ). Contains xs v) (sym row) leads))

pub returns-clause-exact : goal.returns-clause-exact
returns-clause-exact c =
    let none : 0 < length c.loop-vertex.search.stack.items → ⊥ = λ some. cc (c.in_default.ensures.variant.1 (omega arith)) in
    search_ends c.args.graph.now (λ s. is_marked c.args.starts.now s ≡ true) c.loop-vertex.search c.loop-vertex.invariant (omega (arith, none))
