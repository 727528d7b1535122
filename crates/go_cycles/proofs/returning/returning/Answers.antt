use Rattle.std.proofs.Common.{◌≡◌, ◌<◌, ◌+◌, ◌++◌, ◌∷◌, [], ◌∙◌, false, Contains, List, ℕ, length, take, slice_index_or, sym, subst, arith}
use Rattle.std.proofs.lemmas.List.{length-set, take_all, take_more}
use Rattle.go_cycles.proofs.OrderLemmas.{all_more, left_out, only_more}
use Rattle.go_cycles.proofs.returning.returning.Goals as goal

pub loop-vertex-preserved : goal.loop-vertex-preserved
loop-vertex-preserved c =
    let marks = c.loop-vertex.marks.items in
    let vertices = c.deref-vertex-items.result.now in
    let k = c.loop-vertex.vertex-index in
    let w = slice_index_or vertices k 0 in
    let same : vertices ≡ c.in_ok-order.field-0.items = c.deref-vertex-items.ensures.value in
    let within : k < length vertices = omega arith in
    let vertex : w < length c.args.graph.now =
    subst (λ (xs : List ℕ). slice_index_or xs k 0 < length c.args.graph.now) (sym same) ((c.in_ok-order.ensures.run k (subst (λ (xs : List ℕ). k < length xs) same within)).ready.is_vertex) in
    let lt : w < length marks = (let long = c.loop-vertex.invariant.long in omega (arith, long, vertex)) in
    let one : take (k + 1) vertices ≡ take k vertices ++ w ∷ [] = take_more vertices k 0 (omega arith) in
    record {
      long = length-set marks w false ∙ c.loop-vertex.invariant.long;
      only = λ v e h. only_more marks (take k vertices) w lt c.loop-vertex.invariant.only v e (subst (λ (xs : List ℕ). Contains xs v) one h);
      all = λ v below out. all_more marks (take k vertices) w lt (length c.args.graph.now) c.loop-vertex.invariant.all v below (λ h. out (subst (λ (xs : List ℕ). Contains xs v) (sym one) h));
    }

pub returns : goal.returns
returns c =
    let order = c.in_ok-order.field-0.items in
    let same : c.deref-vertex-items.result.now ≡ order = c.deref-vertex-items.ensures.value in
    let whole : take c.loop-vertex.vertex-index c.deref-vertex-items.result.now ≡ order = take_all c.loop-vertex.vertex-index c.deref-vertex-items.result.now (omega arith) ∙ same in
    left_out c.args.graph.now order c.in_ok-order.ensures c.loop-vertex.marks.items c.requires c.loop-vertex.invariant.long
    (λ v e h. c.loop-vertex.invariant.only v e (subst (λ (xs : List ℕ). Contains xs v) (sym whole) h))
    (λ v lt out. c.loop-vertex.invariant.all v lt (λ h. out (subst (λ (xs : List ℕ). Contains xs v) whole h)))
