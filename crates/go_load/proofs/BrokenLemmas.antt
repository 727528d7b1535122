-- What packages break, one package after another, and names that differ.
use Rattle.std.proofs.Common.{◌≡◌, ℕ, suc, ◌+◌, ◌<◌, Bool, true, false, not, ◌||◌, List, [], ◌∷◌, ◌++◌, length, map, get_or, refl, sym, ap, ◌∙◌, append_assoc, arith}
use Rattle.std.specs.Prelude.{if◌then◌else◌, slice_get, unwrap_or, codes}
use Rattle.std.specs.List.{flat_map, list_any, range_with_len}
use Rattle.std.proofs.lemmas.List.{flat_map_more}
use Rattle.go_base.specs.declared.rule.Broken.{Broken}
use Rattle.go_module.specs.Modules.Heads.{FileHead}
use Rattle.go_module.specs.Modules.Paths.{same_text}
use Rattle.go_module.specs.Modules.Packages.{PackageTable}
use Rattle.go_graph.specs.Graph.{is_marked}
use Rattle.go_module.specs.Modules.BrokenImports.{name_at, is_mixed, broken_clauses, broken_imports_at, broken_package, broken_if_reached}
use Rattle.go_module.proofs.MemberLemmas.{range_more}
use Rattle.go_load.proofs.PathSetLemmas.{same, same_text-sym, list_any-map}

-- one more package
pub packages_more : (f : ℕ → List Broken) (k : ℕ) (start old new : List Broken) → old ≡ start ++ flat_map f (range_with_len 0 k) → new ≡ old ++ f k → new ≡ start ++ flat_map f (range_with_len 0 (k + 1))
packages_more f k start old new so_far now =
    let one : suc k ≡ k + 1 = omega arith in
    let at : 0 + k ≡ k = omega arith in
    now
    ∙ ap (λ x. x ++ f k) so_far
    ∙ flat_map_more f start (range_with_len 0 k) k
    ∙ ap (λ n. start ++ flat_map f (range_with_len 0 k ++ n ∷ [])) (sym at)
    ∙ ap (λ x. start ++ flat_map f x) (sym (range_more 0 k) ∙ ap (range_with_len 0) one)

-- what a reached package breaks, by its names and then by its imports
pub package_told : (heads : List FileHead) (t : PackageTable) (k : ℕ) (paths : List (List ℕ)) (stubs : List Bool) (from_stub : Bool) (files : List ℕ) (start mid new : List Broken) → is_marked t.reached k ≡ true → paths ≡ t.paths → stubs ≡ t.stubs → from_stub ≡ is_marked t.stubs k → files ≡ unwrap_or (slice_get t.files k) [] → mid ≡ start ++ broken_clauses heads files → new ≡ mid ++ flat_map (broken_imports_at paths stubs heads from_stub) files → new ≡ start ++ broken_if_reached heads t k
package_told heads t k paths stubs from_stub files start mid new reached p s f row first now =
    let names = broken_clauses heads files in
    let imports = flat_map (broken_imports_at paths stubs heads from_stub) files in
    now
    ∙ ap (λ x. x ++ imports) first
    ∙ append_assoc start names imports
    ∙ ap (λ x. start ++ x) (
    (λ i. broken_package heads (p i) (s i) (f i) (row i))
    ∙ ap (λ b. if b then broken_package heads t.paths t.stubs (is_marked t.stubs k) (unwrap_or (slice_get t.files k) []) else []) (sym reached))

-- names differ where one is not the first

or_parts : (a b : Bool) → (a || b) ≡ false → (a ≡ false) × (b ≡ false)
or_parts true b e = absurd (cc e)
or_parts false b e = (refl, e)

not_false : (a : Bool) → not a ≡ false → a ≡ true
not_false true e = refl
not_false false e = absurd (cc e)

or_swap : (a b c d : Bool) → ((a || b) || (c || d)) ≡ ((a || c) || (b || d))
or_swap true b c d = refl
or_swap false true true d = refl
or_swap false true false d = refl
or_swap false false c d = refl

any-or : (p q : List ℕ → Bool) (xs : List (List ℕ)) → list_any (λ x. p x || q x) xs ≡ (list_any p xs || list_any q xs)
any-or p q [] = refl
any-or p q (x ∷ xs) = ap (λ b. (p x || q x) || b) (any-or p q xs) ∙ or_swap (p x) (q x) (list_any p xs) (list_any q xs)

any-alike : (p q : List ℕ → Bool) → ((x : List ℕ) → p x ≡ q x) → (xs : List (List ℕ)) → list_any p xs ≡ list_any q xs
any-alike p q e [] = refl
any-alike p q e (x ∷ xs) = ap (λ b. b || list_any p xs) (e x) ∙ ap (λ b. q x || b) (any-alike p q e xs)

module _ (x : List ℕ) (names : List (List ℕ)) where
  abbrev differs : List ℕ → Bool
  differs a = list_any (λ b. not (same_text a b)) names

  none_differs : (ys : List (List ℕ)) → differs x ≡ false → list_any (λ b. not (same_text x b)) ys ≡ false → list_any differs ys ≡ false
  none_differs [] none e = refl
  none_differs (y ∷ ys) none e =
      let parts = or_parts (not (same_text x y)) (list_any (λ b. not (same_text x b)) ys) e in
      let alike : x ≡ y = same x y (not_false (same_text x y) parts.0) in
      ap (λ b. b || list_any differs ys) (ap differs (sym alike) ∙ none) ∙ none_differs ys none parts.1

  first_tells : (xs : List (List ℕ)) (b : Bool) → differs x ≡ b → (b ≡ false → list_any (λ b. not (same_text x b)) xs ≡ false) → (differs x || list_any differs xs) ≡ b
  first_tells xs true e rest = ap (λ b. b || list_any differs xs) e
  first_tells xs false e rest = ap (λ b. b || list_any differs xs) e ∙ none_differs xs e (rest refl)

pub mixed_by_first : (x : List ℕ) (xs : List (List ℕ)) → list_any (λ n. not (same_text n x) || same_text n (codes "_")) (x ∷ xs) ≡ is_mixed (x ∷ xs)
mixed_by_first x xs =
    let names = x ∷ xs in
    any-or (λ n. not (same_text n x)) (λ n. same_text n (codes "_")) (x ∷ xs)
    ∙ ap (λ b. b || list_any (λ n. same_text n (codes "_")) (x ∷ xs)) (
    any-alike (λ n. not (same_text n x)) (λ n. not (same_text x n)) (λ n. ap not (same_text-sym n x)) (x ∷ xs)
    ∙ sym (first_tells x (x ∷ xs) xs (list_any (λ b. not (same_text x b)) (x ∷ xs)) refl (λ e. (or_parts (not (same_text x x)) (list_any (λ b. not (same_text x b)) xs) e).1)))

pub mixed_files : (heads : List FileHead) (files : List ℕ) (name : List ℕ) → 0 < length files → name ≡ name_at heads (get_or files 0 0) → list_any (λ file. not (same_text (name_at heads file) name) || same_text (name_at heads file) (codes "_")) files ≡ is_mixed (map (name_at heads) files)
mixed_files heads [] name lt e = absurd (omega arith)
mixed_files heads (file ∷ files) name lt e =
    list_any-map (λ n. not (same_text n name) || same_text n (codes "_")) (name_at heads) (file ∷ files)
    ∙ ap (λ (first : List ℕ). list_any (λ n. not (same_text n first) || same_text n (codes "_")) (map (name_at heads) (file ∷ files))) e
    ∙ mixed_by_first (name_at heads file) (map (name_at heads) files)
