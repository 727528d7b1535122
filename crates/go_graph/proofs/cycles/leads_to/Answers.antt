use Rattle.std.proofs.Common.{◌≡◌, ◌∙◌, List, Bool, ap, false, length, subst, sym, true, ℕ}
use Rattle.std.specs.Prelude.{◌↔◌, replicate, slice_set}
use Rattle.go_graph.specs.Graph.{is_marked}
use Rattle.go_graph.proofs.MarkLemmas.{alone}
use Rattle.go_graph.proofs.ReachLemmas.{reached_more}
use Rattle.go_graph.proofs.cycles.leads_to.Goals as goal

pub returns : goal.returns
returns c =
    let g = c.args.graph.now in
    let from = c.args.from in
    let starts = c.deref.result.now in
    let only : slice_set (replicate (length g) false) from true ≡ starts = sym (c.deref.ensures.value ∙ ap (λ ms. slice_set ms from true) (c.in_ok-starts.ensures.items_if_clones_equal (λ b same. same))) in
    let is : (v : ℕ) → (is_marked starts v ≡ true) ↔ (from ≡ v) = λ v. subst (λ (ms : List Bool). (is_marked ms v ≡ true) ↔ (from ≡ v)) only (alone (length g) from v c.requires.within) in
    let exact = c.in_ok-reached.ensures.exact c.args.to in
    let read = c.is_marked.ensures ∙ ap (λ ms. is_marked ms c.args.to) c.deref-2.ensures.value in (
      λ e. reached_more g (λ s. is_marked starts s ≡ true) (λ v. from ≡ v) (λ v. (is v).0) c.args.to (exact.0 (sym read ∙ e)),
      λ r. read ∙ exact.1 (reached_more g (λ v. from ≡ v) (λ s. is_marked starts s ≡ true) (λ v. (is v).1) c.args.to r),
    )
