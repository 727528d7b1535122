-- Methods by name, as with methods as data: which stands before another, which have one name, and the methods at two places.
use Rattle.std.specs.Prelude.{◌≡◌, ℕ, ◌<◌, Bool, true, false, if◌then◌else◌, ◌&&◌, List, [], ◌∷◌, length, map, filter, slice_index_or}
use Rattle.std.specs.List.{AllByRecursion, flat_map, list_all, list_any}
use Rattle.std.specs.List.Sorted.{IsSortedBy}
use Rattle.std.specs.Ordering.{nat_cmp, ordering_then}
use Rattle.std.specs.Cmp.Lexicographic.{slice_cmp}
use Rattle.std.specs.declared.cmp.Ordering.{Ordering}
use Rattle.go_module.specs.Modules.Paths.{same_text}
use Rattle.go_term.specs.Types.{TypeData}
use Rattle.go_term.specs.declared.term.Term.{Term}
use Rattle.go_judge.specs.Types.Heads.{same_truth}
use Rattle.go_judge.specs.Types.SetsFit.{has_name, text_before}
use Rattle.go_judge.specs.Types.TypeSets.{MethodData}
use Rattle.go_same.specs.Sets.{method_view}
use Rattle.go_same.specs.declared.set.Method.{Method}
use Rattle.go_same.specs.declared.set.TypeSet.{TypeSet}

-- by the names, and where these are the same by the packages
abbrev pub method_cmp : Method → Method → Ordering
method_cmp a b = ordering_then (slice_cmp nat_cmp a.name b.name) (slice_cmp nat_cmp a.home b.home)

abbrev pub stands_before : Method → Method → Bool
stands_before a b = if text_before a.name b.name then true else (same_text a.name b.name && text_before a.home b.home)

abbrev pub is_named_as : Method → Method → Bool
is_named_as a b = same_text a.name b.name && same_text a.home b.home

-- none stands before the one in front of it
abbrev pub AreByName : List Method → Type 0
AreByName ms = IsSortedBy stands_before ms

-- the methods at two places; a place that is in range needs no other method
abbrev pub both_at : List Method → List Method → Method → ℕ × ℕ → Method × Method
both_at ms ns other p = (slice_index_or ms p.0 other, slice_index_or ns p.1 other)

abbrev pub AreInRange : List Method → List Method → List (ℕ × ℕ) → Type 0
AreInRange ms ns pairs = AllByRecursion (λ p. (p.0 < length ms) × (p.1 < length ns)) pairs

-- each method with each of the others that has its name
abbrev pub pairs_in : List Method → List Method → List (Method × Method)
pairs_in ms ns = flat_map (λ m. map (λ n. (m, n)) (filter (is_named_as m) ns)) ms

-- each of the second methods has the name of one of the first
abbrev pub have_names_of : List Method → List Method → Bool
have_names_of ms ns = list_all (λ n. list_any (is_named_as n) ms) ns

-- the methods below a place stand before the one at a place of others, if there is one
abbrev pub AreBefore : List Method → ℕ → List Method → ℕ → Type 0
AreBefore ns from ms i = (k : ℕ) (other : Method) → k < from → i < length ms → stands_before (slice_index_or ns k other) (slice_index_or ms i other) ≡ true

-- a list of nothing
abbrev pub is_none : {X : Type 0} → List X → Bool
is_none [] = true
is_none (x ∷ xs) = false

-- unions in both sets or in neither, and where there are none `comparable` in both or in neither
abbrev pub fit_besides : TypeSet → TypeSet → Bool
fit_besides s t =
    same_truth (is_none s.unions.items) (is_none t.unions.items)
    && (if is_none s.unions.items then same_truth s.comparable t.comparable else true)

-- each method with each of the others that has its name, in their order; of methods by name these are `method_pairs`
abbrev pub named_pairs : List MethodData → List MethodData → List (MethodData × MethodData)
named_pairs ms ns = flat_map (λ m. map (λ n. (m, n)) (filter (has_name m) ns)) ms

module _ (tree : Term → TypeData) where
  -- what the methods at two places stand for
  abbrev pub pair_at : List Method → List Method → Method → ℕ × ℕ → MethodData × MethodData
  pair_at ms ns other p = (method_view tree (slice_index_or ms p.0 other), method_view tree (slice_index_or ns p.1 other))

-- the same of lists of what methods stand for; a place that is in range needs no other
abbrev pub views_at : List MethodData → List MethodData → MethodData → ℕ × ℕ → MethodData × MethodData
views_at ms ns other p = (slice_index_or ms p.0 other, slice_index_or ns p.1 other)
