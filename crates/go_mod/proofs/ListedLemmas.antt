-- The paths that count, sorted and each once.
use Rattle.std.proofs.Common.{◌≡◌, ℕ, ⊎_elim, Bool, true, false, cond, List, [], ◌∷◌, ap, ◌∙◌, nat_eq}
use Rattle.std.specs.Cmp.Lexicographic.{pointwise, slice_cmp, texts_ties}
use Rattle.std.specs.Ordering.{nat_cmp}
use Rattle.std.specs.List.{Contains, dedup, filter}
use Rattle.std.specs.List.Sorted.{IsPermutation, IsSorted}
use Rattle.std.proofs.lemmas.Cmp.{nat_list_cmp_total, nat_list_eq_equiv}
use Rattle.std.proofs.lemmas.List.Elements.{All-contains, filter_passes}
use Rattle.std.proofs.lemmas.List.Kept.{Contains-dedup, Contains-from_dedup, IsStrictlySortedBy-dedup}
use Rattle.std.proofs.lemmas.List.Sorted.{Contains-permutation, IsPermutation-sym}
use Rattle.std.proofs.lemmas.Slice.Eq.{bytes_eq-Decides}
use Rattle.go_module.proofs.MemberLemmas.{cons_cases, contains_head, contains_tail}
use Rattle.go_mod.specs.Folders.{AreGoFiles}
use Rattle.go_mod.specs.Listing.{counts}

from_step : (x : List ℕ) (xs rest : List (List ℕ)) (b : Bool) (path : List ℕ) → (Contains rest path → Contains xs path) → Contains (cond b (x ∷ rest) rest) path → Contains (x ∷ xs) path
from_step x xs rest true path f h = ⊎_elim
    (λ (same : x ≡ path). contains_head x xs path same)
    (λ (has : Contains rest path). contains_tail x xs path (f has))
    (cons_cases x rest path h)
from_step x xs rest false path f h = contains_tail x xs path (f h)

-- what passes stands in the list
from_filter : (p : List ℕ → Bool) (xs : List (List ℕ)) (path : List ℕ) → Contains (filter p xs) path → Contains xs path
from_filter p [] path h = h
from_filter p (x ∷ xs) path h = from_step x xs (filter p xs) (p x) path (from_filter p xs path) h

into_head : (x : List ℕ) (rest : List (List ℕ)) (b : Bool) (path : List ℕ) → x ≡ path → b ≡ true → Contains (cond b (x ∷ rest) rest) path
into_head x rest true path same e = contains_head x rest path same
into_head x rest false path same e = absurd (cc e)

into_tail : (x : List ℕ) (rest : List (List ℕ)) (b : Bool) (path : List ℕ) → Contains rest path → Contains (cond b (x ∷ rest) rest) path
into_tail x rest true path h = contains_tail x rest path h
into_tail x rest false path h = h

-- what stands in the list and passes is kept
into_filter : (p : List ℕ → Bool) (xs : List (List ℕ)) (path : List ℕ) → Contains xs path → p path ≡ true → Contains (filter p xs) path
into_filter p [] path h e = h
into_filter p (x ∷ xs) path h e = ⊎_elim
    (λ (same : x ≡ path). into_head x (filter p xs) (p x) path same (ap p same ∙ e))
    (λ (has : Contains xs path). into_tail x (filter p xs) (p x) path (into_filter p xs path has e))
    (cons_cases x xs path h)

-- sorting what counts and leaving out repeats gives the Go files
pub sorted_files : (paths xs : List (List ℕ)) → IsPermutation (filter (counts paths) paths) xs → IsSorted (slice_cmp nat_cmp) xs → (bytes : List ℕ → List ℕ) → AreGoFiles (record { paths = paths; bytes = bytes }) (dedup (pointwise nat_eq) xs)
sorted_files paths xs moved sorted bytes = record {
  ascending = IsStrictlySortedBy-dedup nat_list_cmp_total texts_ties xs sorted;
  same = λ path. (
    (λ h.
        let kept = Contains-permutation xs (filter (counts paths) paths) path (IsPermutation-sym (filter (counts paths) paths) xs moved) (Contains-from_dedup (pointwise nat_eq) xs path h) in
        (from_filter (counts paths) paths path kept, All-contains (λ y. counts paths y ≡ true) (filter (counts paths) paths) path (filter_passes (counts paths) paths) kept)),
    (λ h. Contains-dedup nat_list_eq_equiv (λ x y e. (bytes_eq-Decides x y).0 e) xs path (Contains-permutation (filter (counts paths) paths) xs path moved (into_filter (counts paths) paths path h.0 h.1))),
  );
}
