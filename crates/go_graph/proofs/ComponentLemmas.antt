-- Components that are borne out are those of the graph.
use Rattle.std.proofs.Common.{◌≡◌, ℕ, zero, suc, ◌+◌, ◌<◌, ◌≤◌, ◌⊎◌, Some, List, [], ◌∷◌, sym, ap, subst, ⊎_elim, arith}
use Rattle.std.specs.Prelude.{slice_get, Contains}
use Rattle.std.proofs.lemmas.Option.{slice_get_within, get_or_from_slice_get}
use Rattle.std.proofs.lemmas.List.Elements.{Contains-get_or}
use Rattle.go_graph.specs.declared.components.Vertex.{Vertex}
use Rattle.go_graph.specs.Graph.{Graph, HasEdge, start, further, Reaches, edge_at, row_at}
use Rattle.go_graph.specs.Certificate.{ComesFrom, LeadsBack, IsNearer, IsDownward, IsConfirmed, AreComponents}
use Rattle.go_graph.proofs.ReachLemmas.{edge_reaches, reaches_join}

-- the vertex that an edge's index names is the end of an edge
edge_there : (g : Graph) (a k b : ℕ) → edge_at g a k ≡ Some b → HasEdge g a b
edge_there g a k b e =
    let row = row_at g a in
    subst (Contains row) (get_or_from_slice_get row k b 0 e) (Contains-get_or row k 0 (slice_get_within row k b e))

-- what is known of a vertex with its record and its leader
joined_at : (g : Graph) (vs : List Vertex) (leaders : List ℕ) → IsConfirmed g vs leaders → (v : ℕ) (x : Vertex) (l : ℕ) → slice_get vs v ≡ Some x → slice_get leaders x.component ≡ Some l → (l ≡ v) ⊎ (ComesFrom g vs v x × LeadsBack g vs l v x)
joined_at g vs leaders ok v x l at leads =
    let j = ok.joined v (omega (arith, slice_get_within vs v x at, ok.same_length)) in
    let told : j.told ≡ x = cc (j.at, at) in
    let leads_too : slice_get leaders x.component ≡ Some j.leader = subst (λ (t : Vertex). slice_get leaders t.component ≡ Some j.leader) told j.leads in
    let leader : j.leader ≡ l = cc (leads_too, leads) in
    let there = subst (λ (t : Vertex). (j.leader ≡ v) ⊎ (ComesFrom g vs v t × LeadsBack g vs j.leader v t)) told j.joined in
    subst (λ (m : ℕ). (m ≡ v) ⊎ (ComesFrom g vs v x × LeadsBack g vs m v x)) leader there

-- a leader reaches the vertices of its component, by the order in which they were reached
led : (g : Graph) (vs : List Vertex) (leaders : List ℕ) → IsConfirmed g vs leaders → (n v : ℕ) (x : Vertex) (l : ℕ) → slice_get vs v ≡ Some x → slice_get leaders x.component ≡ Some l → x.index < n → Reaches g l v
led g vs leaders ok zero v x l at leads lt = absurd (omega arith)
led g vs leaders ok (suc n) v x l at leads lt =
    ⊎_elim
    (λ (same : l ≡ v). start v same)
    (λ (j : ComesFrom g vs v x × LeadsBack g vs l v x).
    let from = j.0 in
    let leads_it : slice_get leaders from.parent.component ≡ Some l = subst (λ (m : ℕ). slice_get leaders m ≡ Some l) (sym from.same) leads in
    let so_far = led g vs leaders ok n x.parent from.parent l from.at leads_it (omega (arith, from.before)) in
    further x.parent v so_far (edge_there g x.parent x.parent_edge v from.edge))
    (joined_at g vs leaders ok v x l at leads)

-- all indices are below some number
IsAbove : List Vertex → ℕ → Type 0
IsAbove vs n = (v : ℕ) (x : Vertex) → slice_get vs v ≡ Some x → x.index < n

above : (y : Vertex) (vs : List Vertex) (n : ℕ) → IsAbove vs n → IsAbove (y ∷ vs) (y.index + n + 1)
unfolding IsAbove
above y vs n h zero x e = let same : y ≡ x = cc in omega (arith, ap (λ (t : Vertex). t.index) same)
above y vs n h (suc v) x e = omega (arith, h v x e)

some_above : (vs : List Vertex) → (n : ℕ) × IsAbove vs n
unfolding IsAbove
some_above [] = (0, λ v x e. cc)
some_above (y ∷ vs) =
    let rest = some_above vs in
    (y.index + rest.0 + 1, above y vs rest.0 rest.1)

-- the vertices with a low number below a bound reach their leader
LeadsBelow : Graph → List Vertex → List ℕ → ℕ → Type 0
LeadsBelow g vs leaders n = (v : ℕ) (x : Vertex) (l : ℕ) → slice_get vs v ≡ Some x → slice_get leaders x.component ≡ Some l → x.low < n → Reaches g v l

-- those with the next low number do so too, from the highest index down
next_low : (g : Graph) (vs : List Vertex) (leaders : List ℕ) → IsConfirmed g vs leaders → (top low : ℕ) → IsAbove vs top → LeadsBelow g vs leaders low → (n v : ℕ) (x : Vertex) (l : ℕ) → slice_get vs v ≡ Some x → slice_get leaders x.component ≡ Some l → x.low < low + 1 → top ≤ x.index + n → Reaches g v l
unfolding IsAbove LeadsBelow
next_low g vs leaders ok top low above_all below zero v x l at leads lt le = absurd (omega (arith, above_all v x at))
next_low g vs leaders ok top low above_all below (suc n) v x l at leads lt le =
    ⊎_elim
    (λ (same : l ≡ v). start l (sym same))
    (λ (j : ComesFrom g vs v x × LeadsBack g vs l v x).
    let back = j.1 in
    let first = edge_reaches g v back.end (edge_there g v x.back_edge back.end back.edge) in
    let leads_it : slice_get leaders back.next.component ≡ Some l = subst (λ (m : ℕ). slice_get leaders m ≡ Some l) (sym back.same) leads in
    ⊎_elim
    (λ (here : back.end ≡ l). subst (Reaches g v) here first)
    (λ (near : IsNearer back.next x). reaches_join g v back.end l first (⊎_elim
    (λ (lower : back.next.low < x.low). below back.end back.next l back.at leads_it (omega arith))
    (λ (later : (back.next.low ≡ x.low) × (x.index < back.next.index)). next_low g vs leaders ok top low above_all below n back.end back.next l back.at leads_it (omega (arith, later.0)) (omega (arith, later.1)))
    near))
    back.nearer)
    (joined_at g vs leaders ok v x l at leads)

leads_below : (g : Graph) (vs : List Vertex) (leaders : List ℕ) → IsConfirmed g vs leaders → (top low : ℕ) → IsAbove vs top → LeadsBelow g vs leaders low
unfolding LeadsBelow
leads_below g vs leaders ok top zero above_all v x l at leads lt = absurd (omega arith)
leads_below g vs leaders ok top (suc low) above_all v x l at leads lt =
    next_low g vs leaders ok top low above_all (leads_below g vs leaders ok top low above_all) top v x l at leads (omega arith) (omega arith)

-- each vertex of a component reaches its leader
leads : (g : Graph) (vs : List Vertex) (leaders : List ℕ) → IsConfirmed g vs leaders → (v : ℕ) (x : Vertex) (l : ℕ) → slice_get vs v ≡ Some x → slice_get leaders x.component ≡ Some l → Reaches g v l
unfolding LeadsBelow
leads g vs leaders ok v x l at leads_it =
    let top = some_above vs in
    leads_below g vs leaders ok top.0 (x.low + 1) top.1 v x l at leads_it (omega arith)

-- an edge leads to no component with a higher number
edge_down : (vs : List Vertex) (a b : ℕ) (x y : Vertex) → slice_get vs a ≡ Some x → slice_get vs b ≡ Some y → IsDownward vs a b → y.component ≤ x.component
edge_down vs a b x y at_a at_b d =
    let from : d.from ≡ x = cc (d.from_at, at_a) in
    let to : d.to ≡ y = cc (d.to_at, at_b) in
    omega (arith, d.downward, ap (λ (t : Vertex). t.component) from, ap (λ (t : Vertex). t.component) to)

-- nor do several
reaches_down : (g : Graph) (vs : List Vertex) (leaders : List ℕ) → IsConfirmed g vs leaders → (a b : ℕ) (x y : Vertex) → slice_get vs a ≡ Some x → slice_get vs b ≡ Some y → Reaches g a b → y.component ≤ x.component
reaches_down g vs leaders ok a b x y at_a at_b (start _ same) =
    let here : slice_get vs a ≡ Some y = subst (λ (v : ℕ). slice_get vs v ≡ Some y) (sym same) at_b in
    let one : x ≡ y = cc (here, at_a) in
    omega (arith, ap (λ (t : Vertex). t.component) one)
reaches_down g vs leaders ok a b x y at_a at_b (further c _ r e) =
    let last = ok.downward c b e in
    let so_far = reaches_down g vs leaders ok a c x last.from at_a last.from_at r in
    let then_down = edge_down vs c b last.from y last.from_at at_b last in
    omega arith

pub confirmed_components : (g : Graph) (vs : List Vertex) (leaders : List ℕ) → IsConfirmed g vs leaders → AreComponents g vs
confirmed_components g vs leaders ok a b in_a in_b = (
  λ t.
      let j = ok.joined a in_a in
      let told : j.told ≡ t.from = cc (j.at, t.from_at) in
      let leads_a : slice_get leaders t.from.component ≡ Some j.leader = subst (λ (r : Vertex). slice_get leaders r.component ≡ Some j.leader) told j.leads in
      let leads_b : slice_get leaders t.to.component ≡ Some j.leader = subst (λ (m : ℕ). slice_get leaders m ≡ Some j.leader) t.same leads_a in
      let to_a = led g vs leaders ok (t.from.index + 1) a t.from j.leader t.from_at leads_a (omega arith) in
      let to_b = led g vs leaders ok (t.to.index + 1) b t.to j.leader t.to_at leads_b (omega arith) in
      let from_a = leads g vs leaders ok a t.from j.leader t.from_at leads_a in
      let from_b = leads g vs leaders ok b t.to j.leader t.to_at leads_b in
      (reaches_join g a j.leader b from_a to_b, reaches_join g b j.leader a from_b to_a),
  λ r.
      let at_a = ok.joined a in_a in
      let at_b = ok.joined b in_b in
      let one = reaches_down g vs leaders ok a b at_a.told at_b.told at_a.at at_b.at r.0 in
      let other = reaches_down g vs leaders ok b a at_b.told at_a.told at_b.at at_a.at r.1 in
      record { from = at_a.told; from_at = at_a.at; to = at_b.told; to_at = at_b.at; same = omega arith },
)
