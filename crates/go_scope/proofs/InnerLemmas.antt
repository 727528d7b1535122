-- What holds of the parts of a node, in their order, holds of those in which identifiers occur.
use Rattle.std.proofs.Common.{ℕ, Bool, true, false, not, cond, List, [], ◌∷◌, filter}
use Rattle.std.specs.Prelude.{if◌then◌else◌}
use Rattle.std.specs.List.{list_any}
use Rattle.go_tree.specs.Tree.{Tree, kind_of}
use Rattle.go_module.specs.declared.inner.Inner.{Inner}
use Rattle.go_module.specs.declared.inner.Inner.TheVariants.{All, First, Last, BehindFirst, BehindNames, BehindKey, TypesAlone, Neither}
use Rattle.go_module.specs.Names.Inner.{is_name_kind, is_tag_kind, is_named_param, is_unnamed_param, first_alone, last_alone, all_behind, behind_key, types_alone, inner_by}

-- of things that each have a tree: what holds from a number on of a list holds of none, of those behind the first, and
-- behind the first of what it holds of where it holds of the others
module _ {X : Type 0} (tree : X → Tree) (P : ℕ → List X → Type 0) (none : (low : ℕ) (xs : List X) → P low xs → P low []) (later : (low : ℕ) (x : X) (xs : List X) → P low (x ∷ xs) → P low xs) (keep : (low : ℕ) (x : X) (xs ys : List X) → ((next : ℕ) → P next xs → P next ys) → P low (x ∷ xs) → P low (x ∷ ys)) where
  holds_filter : (test : X → Bool) (low : ℕ) (xs : List X) → P low xs → P low (filter test xs)
  holds_filter test low [] has = has
  holds_filter test low (x ∷ xs) has = by_test (test x) has (λ next. holds_filter test next xs) where
    by_test : (b : Bool) → P low (x ∷ xs) → ((next : ℕ) → P next xs → P next (filter test xs)) → P low (cond b (x ∷ filter test xs) (filter test xs))
    by_test true here go_on = keep low x xs (filter test xs) go_on here
    by_test false here go_on = go_on low (later low x xs here)

  holds_first : (low : ℕ) (xs : List X) → P low xs → P low (first_alone tree xs)
  holds_first low [] has = has
  holds_first low (x ∷ xs) has = keep low x xs [] (λ next. none next xs) has

  holds_last : (low : ℕ) (xs : List X) → P low xs → P low (last_alone tree xs)
  holds_last low [] has = has
  holds_last low (x ∷ []) has = has
  holds_last low (x ∷ (y ∷ ys)) has = holds_last low (y ∷ ys) (later low x (y ∷ ys) has)

  holds_behind : (low : ℕ) (xs : List X) → P low xs → P low (all_behind tree xs)
  holds_behind low [] has = has
  holds_behind low (x ∷ xs) has = later low x xs has

  key_by : (low : ℕ) (x : X) (xs : List X) (b : Bool) → P low (x ∷ xs) → P low (if b then xs else x ∷ xs)
  key_by low x xs true has = later low x xs has
  key_by low x xs false has = has

  holds_key : (low : ℕ) (xs : List X) → P low xs → P low (behind_key tree xs)
  holds_key low [] has = has
  holds_key low (x ∷ xs) has = key_by low x xs (is_name_kind (kind_of (tree x))) has

  types_by : (low : ℕ) (xs ys : List X) (b : Bool) → P low ys → P low xs → P low (if b then ys else xs)
  types_by low xs ys true fewer has = fewer
  types_by low xs ys false fewer has = has

  holds_types : (low : ℕ) (xs : List X) → P low xs → P low (types_alone tree xs)
  holds_types low xs has =
      types_by low xs (filter (λ x. not (is_unnamed_param (kind_of (tree x)))) xs) (list_any (λ x. is_named_param (kind_of (tree x))) xs)
      (holds_filter (λ x. not (is_unnamed_param (kind_of (tree x)))) low xs has) has

  pub holds_inner : (inner : Inner) (low : ℕ) (xs : List X) → P low xs → P low (inner_by tree inner xs)
  holds_inner All low xs has = has
  holds_inner First low xs has = holds_first low xs has
  holds_inner Last low xs has = holds_last low xs has
  holds_inner BehindFirst low xs has = holds_behind low xs has
  holds_inner BehindNames low xs has = holds_last low (filter (λ x. not (is_tag_kind (kind_of (tree x)))) xs) (holds_filter (λ x. not (is_tag_kind (kind_of (tree x)))) low xs has)
  holds_inner BehindKey low xs has = holds_key low xs has
  holds_inner TypesAlone low xs has = holds_types low xs has
  holds_inner Neither low xs has = none low xs has
