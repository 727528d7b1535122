-- The paths of packages: sorted, each once, and those that are homes.
use Rattle.std.proofs.Common.{◌≡◌, ℕ, ◌+◌, ◌<◌, ⊎_elim, List, [], ◌∷◌, ◌++◌, Option, None, Some, length, get_or, take, sym, ap, ◌∙◌, nat_eq}
use Rattle.std.specs.Cmp.Lexicographic.{pointwise, slice_cmp, texts_ties}
use Rattle.std.specs.Ordering.{nat_cmp}
use Rattle.std.specs.List.{Contains, filter_map, dedup}
use Rattle.std.specs.List.Sorted.{IsPermutation, IsSorted}
use Rattle.std.proofs.lemmas.Cmp.{nat_list_cmp_total, nat_list_eq_equiv}
use Rattle.std.proofs.lemmas.List.{take_more}
use Rattle.std.proofs.lemmas.List.Elements.{filter_map-append}
use Rattle.std.proofs.lemmas.List.Kept.{Contains-dedup, Contains-from_dedup, IsStrictlySortedBy-dedup}
use Rattle.std.proofs.lemmas.List.Sorted.{Contains-permutation, IsPermutation-sym}
use Rattle.std.proofs.lemmas.Slice.Eq.{bytes_eq-Decides}
use Rattle.go_module.proofs.MemberLemmas.{cons_cases, contains_head, contains_tail, contains_none}
use Rattle.go_module.specs.Modules.Packages.{IsPathList}

-- one more of the homes that there are
pub present_more : (homes : List (Option (List ℕ))) (i : ℕ) (home : Option (List ℕ)) (old new : List (List ℕ)) → i < length homes → home ≡ get_or homes i home → old ≡ filter_map (λ h. h) (take i homes) → new ≡ old ++ filter_map (λ h. h) (home ∷ []) → new ≡ filter_map (λ h. h) (take (i + 1) homes)
present_more homes i home old new lt is so_far now =
    now
    ∙ ap (λ paths. paths ++ filter_map (λ h. h) (home ∷ [])) so_far
    ∙ sym (filter_map-append (λ h. h) (take i homes) (home ∷ []))
    ∙ ap (λ (h : Option (List ℕ)). filter_map (λ h. h) (take i homes ++ h ∷ [])) is
    ∙ ap (filter_map (λ h. h)) (sym (take_more homes i home lt))

some_same : (p q : List ℕ) → Some p ≡ Some q → p ≡ q
some_same p q e = cc

none_is_some : (q : List ℕ) → None ≡ Some q → ⊥
none_is_some q e = cc

-- what is present is a home
present_home : (homes : List (Option (List ℕ))) (path : List ℕ) → Contains (filter_map (λ h. h) homes) path → Contains homes (Some path)
present_home [] path h = absurd (contains_none path h)
present_home (None ∷ homes) path h = contains_tail None homes (Some path) (present_home homes path h)
present_home (Some p ∷ homes) path h = ⊎_elim
    (λ (same : p ≡ path). contains_head (Some p) homes (Some path) (ap Some same))
    (λ (has : Contains (filter_map (λ h. h) homes) path). contains_tail (Some p) homes (Some path) (present_home homes path has))
    (cons_cases p (filter_map (λ h. h) homes) path h)

-- a home is present
home_present : (homes : List (Option (List ℕ))) (path : List ℕ) → Contains homes (Some path) → Contains (filter_map (λ h. h) homes) path
home_present [] path h = absurd (contains_none (Some path) h)
home_present (None ∷ homes) path h = ⊎_elim
    (λ (same : None ≡ Some path). absurd (none_is_some path same))
    (λ (has : Contains homes (Some path)). home_present homes path has)
    (cons_cases None homes (Some path) h)
home_present (Some p ∷ homes) path h = ⊎_elim
    (λ (same : Some p ≡ Some path). contains_head p (filter_map (λ h. h) homes) path (some_same p path same))
    (λ (has : Contains homes (Some path)). contains_tail p (filter_map (λ h. h) homes) path (home_present homes path has))
    (cons_cases (Some p) homes (Some path) h)

-- sorting what is present and leaving out repeats gives the list
pub sorted_paths : (homes : List (Option (List ℕ))) (xs : List (List ℕ)) → IsPermutation (filter_map (λ h. h) homes) xs → IsSorted (slice_cmp nat_cmp) xs → IsPathList homes (dedup (pointwise nat_eq) xs)
sorted_paths homes xs moved sorted = record {
  ascending = IsStrictlySortedBy-dedup nat_list_cmp_total texts_ties xs sorted;
  same = λ path. (
    (λ h. present_home homes path (Contains-permutation xs (filter_map (λ h. h) homes) path (IsPermutation-sym (filter_map (λ h. h) homes) xs moved) (Contains-from_dedup (pointwise nat_eq) xs path h))),
    (λ h. Contains-dedup nat_list_eq_equiv (λ x y e. (bytes_eq-Decides x y).0 e) xs path (Contains-permutation (filter_map (λ h. h) homes) xs path moved (home_present homes path h))),
  );
}
