use Rattle.std.proofs.Common.{◌<◌, ◌∙◌, [], All, List, ℕ, arith, below_more, length, refl, subst, sym}
use Rattle.std.specs.Prelude.{Contains}
use Rattle.std.proofs.lemmas.Bool.{false≢true}
use Rattle.std.proofs.lemmas.List.Elements.{All-contains}
use Rattle.go_graph.proofs.PlaceLemmas.{at_read, edge_within, row_below}
use Rattle.go_graph.proofs.graph.is_graph.Goals as goal

pub loop-row-preserved : goal.loop-row-preserved
loop-row-preserved c = below_more _ _ c.loop-row.invariant (λ b e.
    let rows = c.args.rows.now in
    let at = at_read [] rows c.loop-row.row-index c.row-item.result (omega arith) c.row-item.is in
    let has = subst (λ (xs : List ℕ). Contains xs b) (at ∙ sym c.as_slice.ensures) e in
    All-contains (λ w. w < length rows) c.as_slice.result.now b (c.are_below.ensures.0 c.if-not-are_below.false) has)

pub returns-then-not-are_below : goal.returns-then-not-are_below
returns-then-not-are_below c =
    let rows = c.args.rows.now in
    let k = c.loop-row.row-index in
    let at = at_read [] rows k c.row-item.result (omega arith) c.row-item.is in (
      λ e. absurd (false≢true e),
      λ graph. absurd (false≢true (sym c.if-not-are_below.true ∙ c.are_below.ensures.1
          (subst (λ (xs : List ℕ). All (λ w. w < length rows) xs) (at ∙ sym c.as_slice.ensures) (row_below rows k (length rows) graph refl)))),
    )

pub returns : goal.returns
returns c = (λ _ a b e. c.loop-row.invariant a (let lt = edge_within c.args.rows.now a b e in omega arith) b e, λ _. refl)
