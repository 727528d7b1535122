-- Sizes of lists of parts, one part after another.
use Rattle.std.proofs.Common.{◌≡◌, ℕ, suc, ◌+◌, ◌<◌, max, min, List, ◌∷◌, map, length, get_or, drop, refl, sym, ap, ◌∙◌, add-one, drop-cons, arith, Option, Some, None, slice_get, unwrap_or}
use Rattle.std.specs.Option.{option_map}
use Rattle.std.proofs.lemmas.Option.{slice_get-map}
use Rattle.go_term.specs.declared.term.Term.{Term}
use Rattle.go_term.specs.View.{type_of}
use Rattle.go_base.specs.declared.ids.ObjId.{ObjId}
use Rattle.go_term.specs.declared.size.TermSize.{TermSize}
use Rattle.go_term.specs.Types.{TypeData, parts_of}
use Rattle.go_term.specs.Size.{depth, nodes, greatest_depth, nodes_of_all}
use Rattle.go_term.specs.Sizes.{size_by, size_of, joined}
use Rattle.go_term.specs.Substitution.{subst, subst_all}

pub deeper : (a s b d r : ℕ) → s ≡ min d 257 → b ≡ min (max a s) 257 → min (max b r) 257 ≡ min (max a (max d r)) 257
deeper a s b d r is_s is_b = omega arith

pub larger : (a s b n r : ℕ) → s ≡ min n 65537 → b ≡ min (a + s) 65537 → min (b + r) 65537 ≡ min (a + (n + r)) 65537
larger a s b n r is_s is_b = omega arith

pub same_size : (a b c d : ℕ) → a ≡ b → c ≡ d → (let x : TermSize = record { depth = a; nodes = c } in x) ≡ record { depth = b; nodes = d }
same_size a b c d e f = cc

-- one item of several
module _ {A : Type 0} (view : A → TypeData) (from : List (ObjId × ℕ)) (to : List TypeData) (xs : List A) (i : ℕ) (x : A) (lt : i < length xs) (at : x ≡ get_or xs i x) where
  opens : drop i xs ≡ x ∷ drop (i + 1) xs
  opens = rw add-one (drop-cons xs i x lt ∙ ap (λ y. y ∷ drop (suc i) xs) (sym at))

  pub added : (a s b : TermSize) → s ≡ size_of (subst from to (view x)) → b ≡ size_by (max a.depth s.depth) (a.nodes + s.nodes)
      → joined b (subst_all from to (parts_of (map view (drop (i + 1) xs)))) ≡ joined a (subst_all from to (parts_of (map view (drop i xs))))
  added a s b is_s is_b =
      rw opens (same_size _ _ _ _
      (deeper a.depth s.depth b.depth (depth (subst from to (view x))) (greatest_depth (subst_all from to (parts_of (map view (drop (i + 1) xs))))) (ap (λ (z : TermSize). z.depth) is_s) (ap (λ (z : TermSize). z.depth) is_b))
      (larger a.nodes s.nodes b.nodes (nodes (subst from to (view x))) (nodes_of_all (subst_all from to (parts_of (map view (drop (i + 1) xs))))) (ap (λ (z : TermSize). z.nodes) is_s) (ap (λ (z : TermSize). z.nodes) is_b)))

-- the size of the argument for a parameter
pub sized_at : (to : List Term) (sizes : List TermSize) (k : ℕ) (u : TypeData) → sizes ≡ map (λ t. size_of (type_of t)) to
    → unwrap_or (slice_get sizes k) (size_of u) ≡ size_of (unwrap_or (slice_get (map type_of to) k) u)
sized_at to sizes k u e = rw (e, slice_get-map, slice_get-map) (go (slice_get to k))
  where
    go : (o : Option Term) → unwrap_or (option_map (λ t. size_of (type_of t)) o) (size_of u) ≡ size_of (unwrap_or (option_map type_of o) u)
    go None = refl
    go (Some t) = refl
