use Rattle.std.proofs.Common.{◌≡◌, ◌++◌, ◌∷◌, [], ◌∙◌, ℕ, Contains, List, true, sym, subst, ap, arith, ⊎_elim}
use Rattle.std.proofs.lemmas.Bool.{cases_eq, true≢false}
use Rattle.std.proofs.lemmas.List.Elements.{Contains-append_left, Contains-push, Contains-push_cases}
use Rattle.go_graph.specs.Graph.{is_marked}
use Rattle.go_graph.proofs.MarkLemmas.{marked_within}
use Rattle.go_graph.proofs.reach.marked.Goals.{then-is_marked+in_ok-push, else-is_marked}
use Rattle.go_graph.proofs.reach.marked.Goals as goal

pub loop-place-preserved : goal.loop-place-preserved
loop-place-preserved c =
    let marks = c.args.marks.now in
    let place = c.loop-place.place in
    let inv = c.loop-place.invariant in
    elim c.if-is_marked.branch [
      | then-is_marked+in_ok-push w ↦
          let is = ap (λ ps. ps.items) w.places-is ∙ w.in_ok-push.ensures.items in
          record {
            only = λ v has. ⊎_elim
                (λ (was : Contains c.loop-place.places.items v). inv.only v was)
                (λ (here : place ≡ v). subst (λ n. is_marked marks n ≡ true) here (sym c.is_marked.ensures ∙ w.if-is_marked.true))
                (Contains-push_cases c.loop-place.places.items place v (subst (λ (xs : List ℕ). Contains xs v) is has));
            all = λ v lt e. subst (λ (xs : List ℕ). Contains xs v) (sym is) (⊎_elim
                (λ (here : place ≡ v). subst (Contains (c.loop-place.places.items ++ place ∷ [])) here (Contains-push c.loop-place.places.items place))
                (λ (ne : place ≡ v → ⊥). Contains-append_left c.loop-place.places.items (place ∷ []) v (inv.all v (omega arith) e))
                (cases_eq place v));
          }
      | else-is_marked w ↦
          let is = ap (λ ps. ps.items) w.places-is in
          record {
            only = λ v has. inv.only v (subst (λ (xs : List ℕ). Contains xs v) is has);
            all = λ v lt e. subst (λ (xs : List ℕ). Contains xs v) (sym is) (⊎_elim
                (λ (here : place ≡ v). absurd (true≢false (sym e ∙ ap (is_marked marks) (sym here) ∙ sym c.is_marked.ensures ∙ w.if-is_marked.false)))
                (λ (ne : place ≡ v → ⊥). inv.all v (omega arith) e)
                (cases_eq place v));
          }
    ]

pub returns : goal.returns
returns c = λ v. (c.loop-place.invariant.only v, λ e. c.loop-place.invariant.all v (let lt = marked_within c.args.marks.now v e in omega arith) e)
