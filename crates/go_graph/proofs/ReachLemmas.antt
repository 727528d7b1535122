-- What is reached from one vertex, and from the ends of its edges.
use Rattle.std.proofs.Common.{ℕ, refl, subst}
use Rattle.go_graph.specs.Graph.{Graph, HasEdge, ReachedFrom, start, further, Path, Reaches}

-- a greater set reaches as much
pub reached_more : (g : Graph) (P Q : ℕ → Type 0) → ((v : ℕ) → P v → Q v) → (v : ℕ) → ReachedFrom g P v → ReachedFrom g Q v
reached_more g P Q more v (start _ p) = start v (more v p)
reached_more g P Q more v (further a _ r e) = further a v (reached_more g P Q more a r) e

module _ (g : Graph) where
  -- one edge
  pub edge_reaches : (a b : ℕ) → HasEdge g a b → Reaches g a b
  edge_reaches a b e = further a b (start a refl) e

  -- one way behind another
  pub reaches_join : (a b c : ℕ) → Reaches g a b → Reaches g b c → Reaches g a c
  reaches_join a b c r (start _ same) = subst (Reaches g a) same r
  reaches_join a b c r (further d _ s e) = further d c (reaches_join a b d r s) e

  -- a path is an edge, and what its end reaches

  pub path_begins : (a c : ℕ) → Path g a c → (b : ℕ) × HasEdge g a b × Reaches g b c
  path_begins a c (start _ e) = (c, e, start c refl)
  path_begins a c (further d _ p e) =
      let first = path_begins a d p in
      (first.0, first.1, further d c first.2 e)

  pub edge_begins : (a b c : ℕ) → HasEdge g a b → Reaches g b c → Path g a c
  edge_begins a b c e (start _ same) = start c (subst (HasEdge g a) same e)
  edge_begins a b c e (further d _ r f) = further d c (edge_begins a b d e r) f
