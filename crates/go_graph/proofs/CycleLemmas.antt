-- Marks of edges and of vertices that lie on cycles.
use Rattle.std.proofs.Common.{◌≡◌, ℕ, ◌+◌, ◌<◌, Bool, true, false, List, [], ◌∷◌, ◌++◌, length, get_or, sym, ap, ◌∙◌, subst, arith}
use Rattle.std.specs.Prelude.{◌↔◌, Contains, Vec}
use Rattle.std.specs.Global.{Global}
use Rattle.std.proofs.lemmas.List.{get_or-map, get_or_default, length-map, map-append}
use Rattle.std.proofs.lemmas.List.Elements.{Contains-get_or}
use Rattle.go_graph.specs.Certificate.{AreComponents, AreTogether}
use Rattle.go_graph.specs.Cycles.{MarksCycles, MarksEach, OnCycle, marks_of}
use Rattle.go_graph.specs.Graph.{Graph, HasEdge, IsGraph, Path, is_marked, row_at}
use Rattle.go_graph.specs.declared.components.Vertex.{Vertex}
use Rattle.go_graph.proofs.MarkLemmas.{marked_within}
use Rattle.go_graph.proofs.PlaceLemmas.{at_has, at_read, each_more, edge_within, has_at}
use Rattle.go_graph.proofs.ReachLemmas.{edge_begins, edge_reaches, path_begins}

-- one more mark of a row
pub marks_more : (P : ℕ → Type 0) (row : List ℕ) (marks after : List Bool) (mark : Bool) (n : ℕ) → length marks ≡ n → after ≡ marks ++ mark ∷ [] → ((k : ℕ) → k < n → (is_marked marks k ≡ true) ↔ P (get_or row k 0)) → ((mark ≡ true) ↔ P (get_or row n 0)) → (k : ℕ) → k < n + 1 → (is_marked after k ≡ true) ↔ P (get_or row k 0)
marks_more P row marks after mark n same pushed each is =
    each_more false (λ k m. (m ≡ true) ↔ P (get_or row k 0)) marks after mark n same pushed each is

-- one more row of marks
pub rows_more : (g : Graph) (rows after : List (Vec Bool Global)) (new : Vec Bool Global) (n : ℕ) → length rows ≡ n → after ≡ rows ++ new ∷ [] → ((a : ℕ) → a < n → MarksEach (OnCycle g a) (row_at g a) (row_at (marks_of rows) a)) → MarksEach (OnCycle g n) (row_at g n) new.items → (a : ℕ) → a < n + 1 → MarksEach (OnCycle g a) (row_at g a) (row_at (marks_of after) a)
rows_more g rows after new n same pushed each is =
    let items : Vec Bool Global → List Bool = λ v. v.items in
    each_more [] (λ a marks. MarksEach (OnCycle g a) (row_at g a) marks) (marks_of rows) (marks_of after) new.items n
    (length-map rows items ∙ same) (ap marks_of pushed ∙ map-append items rows (new ∷ [])) each is

-- an edge lies on a cycle exactly where it stays within a component
pub together_marks : (g : Graph) (vs : List Vertex) (a : ℕ) (marks : List Bool) → IsGraph g → AreComponents g vs → MarksEach (AreTogether vs a) (row_at g a) marks → MarksEach (OnCycle g a) (row_at g a) marks
together_marks g vs a marks graph components m = record {
  same_length = m.same_length;
  exact = λ k lt.
      let b = get_or (row_at g a) k 0 in
      let e : HasEdge g a b = Contains-get_or (row_at g a) k 0 lt in
      let exact = components a b (edge_within g a b e) (graph a b e) in
      (λ set. (exact.0 ((m.exact k lt).0 set)).1, λ back. (m.exact k lt).1 (exact.1 (edge_reaches g a b e, back)));
}

-- a path leads from a vertex back to it exactly where one of its edges lies on a cycle
vertex_marks : (g : Graph) (v : ℕ) (marks : List Bool) → MarksEach (OnCycle g v) (row_at g v) marks → Contains marks true ↔ Path g v v
vertex_marks g v marks m =
    let row = row_at g v in (
      λ has.
          let lt : has.0 < length row = omega (arith, has.1, m.same_length) in
          let b = get_or row has.0 0 in
          edge_begins g v b v (Contains-get_or row has.0 0 lt) ((m.exact has.0 lt).0 (has_at false marks true has)),
      λ p.
          let first = path_begins g v v p in
          let e = first.1 in
          let same : get_or row e.0 0 ≡ first.0 = get_or_default row e.0 0 first.0 e.1 ∙ e.2 in
          at_has false marks true e.0 (omega (arith, e.1, m.same_length)) ((m.exact e.0 e.1).1 (subst (λ b. OnCycle g v b) (sym same) first.2)),
    )

-- a row of marks for each vertex
pub marks_length : (g : Graph) (rows : List (Vec Bool Global)) → MarksCycles g (marks_of rows) → length rows ≡ length g
marks_length g rows m = sym (length-map rows (λ row. row.items)) ∙ m.same_length

-- the marks of a vertex
pub marks_at : (rows : List (Vec Bool Global)) (v : ℕ) (row : Vec Bool Global) → v < length rows → row ≡ get_or rows v row → row_at (marks_of rows) v ≡ row.items
marks_at rows v row lt is =
    let items : Vec Bool Global → List Bool = λ r. r.items in
    at_read [] (marks_of rows) v row.items (omega (arith, length-map rows items)) (ap items is ∙ sym (get_or-map items rows v row row.items lt))

-- one more vertex: what its row of marks has
pub vertices_more : (g : Graph) (marks after : List Bool) (mark : Bool) (row : List Bool) (n : ℕ) → length marks ≡ n → after ≡ marks ++ mark ∷ [] → ((v : ℕ) → v < n → (is_marked marks v ≡ true) ↔ Path g v v) → ((mark ≡ true) ↔ Contains row true) → MarksEach (OnCycle g n) (row_at g n) row → (v : ℕ) → v < n + 1 → (is_marked after v ≡ true) ↔ Path g v v
vertices_more g marks after mark row n same pushed each has m =
    let of_row = vertex_marks g n row m in
    each_more false (λ v x. (x ≡ true) ↔ Path g v v) marks after mark n same pushed each (λ e. of_row.0 (has.0 e), λ p. has.1 (of_row.1 p))

-- a vertex outside the graph is on no path and has no mark
pub exact_outside : (g : Graph) (marks : List Bool) → length marks ≡ length g → ((v : ℕ) → v < length g → (is_marked marks v ≡ true) ↔ Path g v v) → (v : ℕ) → (is_marked marks v ≡ true) ↔ Path g v v
exact_outside g marks same exact v = (
  λ e. (exact v (let lt = marked_within marks v e in omega arith)).0 e,
  λ p. let first = path_begins g v v p in (exact v (edge_within g v first.0 first.1)).1 p,
)
