-- Walks over two types: whether they fit, which interfaces stand at the same places, and whether they are alike.
use Rattle.std.proofs.Common.{◌≡◌, ℕ, zero, suc, ◌+◌, ◌<◌, ◌≤◌, ◌&&◌, true, false, List, [], ◌∷◌, drop, get_or, length, refl, sym, ap, subst, ◌∙◌, add-one, drop-cons, arith}
use Rattle.std.specs.Borrow.{Bor}
use Rattle.std.specs.List.{AllByRecursion}
use Rattle.std.proofs.lemmas.List.{length-map}
use Rattle.go_term.specs.Size.{depth}
use Rattle.go_judge.specs.Types.Own.{KeepsTypes}
use Rattle.go_same.proofs.DepthLemmas.{deepest, layer_depth}
use Rattle.go_term.specs.Shapes.{shape_tree}
use Rattle.go_term.specs.Types.{Head, TypeData, Parts, made, parts_of}
use Rattle.go_term.specs.declared.term.Term.{Term}
use Rattle.go_term.specs.declared.shape.Shape.{Shape}
use Rattle.go_judge.specs.Types.Heads.{same_head, alike, all_alike}
use Rattle.go_judge.specs.Types.TypeIdentity.{are_interfaces, fit, all_fit, interfaces_in, interfaces_in_all}
use Rattle.go_judge.specs.Types.TypeSets.{home_of, plain}
use Rattle.go_same.specs.declared.layer.Homes.TheVariants.{Each, Unexported}
use Rattle.go_same.specs.Layers.{same_layer, types_in, both_interfaces, plain_types, lent}
use Rattle.go_same.proofs.WalkLemmas.{Walks, all_by, plain_each, pairs_lists}
use Rattle.go_same.proofs.ShapeLemmas.{layer_test, layer_pairs, layer_long}

fit_lists : (ts us : List TypeData) → all_fit (parts_of ts) (parts_of us) ≡ all_by fit ts us
fit_lists [] [] = refl
fit_lists [] (u ∷ us) = refl
fit_lists (t ∷ ts) [] = refl
fit_lists (t ∷ ts) (u ∷ us) = ap (λ b. fit t u && b) (fit_lists ts us)

alike_lists : (ts us : List TypeData) → all_alike (parts_of ts) (parts_of us) ≡ all_by alike ts us
alike_lists [] [] = refl
alike_lists [] (u ∷ us) = refl
alike_lists (t ∷ ts) [] = refl
alike_lists (t ∷ ts) (u ∷ us) = ap (λ b. alike t u && b) (alike_lists ts us)

fit_nodes : (h g : Head) (ts us : Parts) → are_interfaces h g ≡ false → fit (made h ts) (made g us) ≡ (same_head home_of h g && all_fit ts us)
fit_nodes h g ts us e = rw e refl

fit_walks : Walks Unexported fit all_fit
fit_walks = record { nodes = fit_nodes; lists = fit_lists }

alike_walks : Walks Each alike all_alike
alike_walks = record { nodes = λ h g ts us e. refl; lists = alike_lists }

module _ (tree : Term → TypeData) (x y : Shape) where
  pub fit_layer : both_interfaces x y ≡ false → fit (plain (shape_tree tree x)) (plain (shape_tree tree y)) ≡ (same_layer Unexported x y && all_fit (plain_types tree (types_in x)) (plain_types tree (types_in y)))
  fit_layer apart =
      rw (plain_each tree (types_in x), plain_each tree (types_in y), fit_lists)
      (layer_test Unexported fit all_fit fit_walks tree x y (λ e. cc))

  pub alike_layer : alike (plain (shape_tree tree x)) (plain (shape_tree tree y)) ≡ (same_layer Each x y && all_alike (plain_types tree (types_in x)) (plain_types tree (types_in y)))
  alike_layer =
      rw (plain_each tree (types_in x), plain_each tree (types_in y), alike_lists)
      (layer_test Each alike all_alike alike_walks tree x y (λ e ps qs. refl))

  pub pairs_layer : both_interfaces x y ≡ false → same_layer Unexported x y ≡ true
      → interfaces_in (plain (shape_tree tree x)) (plain (shape_tree tree y)) ≡ interfaces_in_all (plain_types tree (types_in x)) (plain_types tree (types_in y))
  pairs_layer apart e =
      rw (plain_each tree (types_in x), plain_each tree (types_in y), pairs_lists)
      (layer_pairs Unexported fit all_fit fit_walks tree x y apart e)

  pub long_layer : same_layer Unexported x y ≡ true → length (types_in x) ≡ length (types_in y)
  long_layer = layer_long Unexported fit all_fit fit_walks tree x y

  pub long_alike : same_layer Each x y ≡ true → length (types_in x) ≡ length (types_in y)
  long_alike = layer_long Each alike all_alike alike_walks tree x y

  -- where the lists are those of the types in the layers
  module _ (ts us : List (Bor Term)) (first : lent ts ≡ types_in x) (second : lent us ≡ types_in y) where
    pub fit_within : both_interfaces x y ≡ false → same_layer Unexported x y ≡ true → all_fit (plain_types tree (lent ts)) (plain_types tree (lent us)) ≡ fit (plain (shape_tree tree x)) (plain (shape_tree tree y))
    fit_within apart e =
        (λ j. all_fit (plain_types tree (first j)) (plain_types tree (second j)))
        ∙ ap (λ b. b && all_fit (plain_types tree (types_in x)) (plain_types tree (types_in y))) (sym e) ∙ sym (fit_layer apart)

    pub alike_within : same_layer Each x y ≡ true → all_alike (plain_types tree (lent ts)) (plain_types tree (lent us)) ≡ alike (plain (shape_tree tree x)) (plain (shape_tree tree y))
    alike_within e =
        (λ j. all_alike (plain_types tree (first j)) (plain_types tree (second j)))
        ∙ ap (λ b. b && all_alike (plain_types tree (types_in x)) (plain_types tree (types_in y))) (sym e) ∙ sym alike_layer

    pub pairs_within : both_interfaces x y ≡ false → same_layer Unexported x y ≡ true
        → interfaces_in_all (plain_types tree (lent ts)) (plain_types tree (lent us)) ≡ interfaces_in (plain (shape_tree tree x)) (plain (shape_tree tree y))
    pairs_within apart e = (λ j. interfaces_in_all (plain_types tree (first j)) (plain_types tree (second j))) ∙ sym (pairs_layer apart e)

    as_long : length (types_in x) ≡ length (types_in y) → length ts ≡ length us
    as_long e = sym (length-map ts (λ t. t.now)) ∙ ap (λ (l : List Term). length l) first ∙ e ∙ ap (λ (l : List Term). length l) (sym second) ∙ length-map us (λ t. t.now)

    pub long_within : same_layer Unexported x y ≡ true → length ts ≡ length us
    long_within e = as_long (long_layer e)

    pub long_within_alike : same_layer Each x y ≡ true → length ts ≡ length us
    long_within_alike e = as_long (long_alike e)

    pub shallow : deepest tree (lent ts) < depth (shape_tree tree x)
    shallow = let e : deepest tree (lent ts) ≡ deepest tree (types_in x) = ap (deepest tree) first in let d = layer_depth tree x in omega arith

  pub fit_other : both_interfaces x y ≡ false → same_layer Unexported x y ≡ false → false ≡ fit (plain (shape_tree tree x)) (plain (shape_tree tree y))
  fit_other apart e = ap (λ b. b && all_fit (plain_types tree (types_in x)) (plain_types tree (types_in y))) (sym e) ∙ sym (fit_layer apart)

  pub alike_other : same_layer Each x y ≡ false → false ≡ alike (plain (shape_tree tree x)) (plain (shape_tree tree y))
  alike_other e = ap (λ b. b && all_alike (plain_types tree (types_in x)) (plain_types tree (types_in y))) (sym e) ∙ sym alike_layer

dropped_depth : (tree : Term → TypeData) (ts : List (Bor Term)) (i : ℕ) → deepest tree (lent (drop i ts)) ≤ deepest tree (lent ts)
dropped_depth tree ts zero = omega arith
dropped_depth tree [] (suc i) = omega arith
dropped_depth tree (t ∷ ts) (suc i) = let e = dropped_depth tree ts i in omega arith

-- one type of several, over a judge that has gone on
module _ {own own' : Term → Type 0} {tree tree' : Term → TypeData} (kept : KeepsTypes own own' tree tree')
    (ts : List (Bor Term)) (i : ℕ) (t : Bor Term) (lt : i < length ts) (at : t ≡ get_or ts i t) (all : AllByRecursion own (lent (drop i ts))) where
  pub opens : drop i ts ≡ t ∷ drop (i + 1) ts
  opens = rw add-one (drop-cons ts i t lt ∙ ap (λ l. l ∷ drop (suc i) ts) (sym at))

  parted : own t.now × AllByRecursion own (lent (drop (i + 1) ts))
  parted = subst (λ (l : List (Bor Term)). AllByRecursion own (lent l)) opens all

  pub here_own : own' t.now
  here_own = kept.types t.now parted.0

  pub here_kept : tree' t.now ≡ tree t.now
  here_kept = kept.trees t.now parted.0

  pub rest_own : AllByRecursion own (lent (drop (i + 1) ts))
  rest_own = parted.1

  pub here_depth : depth (tree' t.now) ≤ deepest tree (lent ts)
  here_depth =
      let e : depth (tree' t.now) ≡ depth (tree t.now) = ap depth here_kept in
      let f : deepest tree (lent (drop i ts)) ≡ deepest tree (lent (t ∷ drop (i + 1) ts)) = ap (λ (l : List (Bor Term)). deepest tree (lent l)) opens in
      let g = dropped_depth tree ts i in omega arith
