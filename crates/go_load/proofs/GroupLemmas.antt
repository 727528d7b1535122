-- Files put into the rows of their packages.
use Rattle.std.proofs.Common.{◌≡◌, ℕ, zero, suc, ◌+◌, ◌<◌, Bool, true, false, not, cond, List, [], ◌∷◌, ◌++◌, Option, Some, None, length, map, get_or, refl, sym, ap, ◌∙◌, nat_lt, arith}
use Rattle.std.specs.Prelude.{filter, slice_get, unwrap_or, replicate}
use Rattle.std.specs.List.{AllByRecursion, position_or_len, range_with_len}
use Rattle.std.specs.List.Sorted.{IsStrictlySortedBy}
use Rattle.std.specs.Cmp.Lexicographic.{slice_cmp}
use Rattle.std.specs.Ordering.{nat_cmp}
use Rattle.std.specs.declared.cmp.Ordering.TheVariants.{Less}
use Rattle.std.proofs.lemmas.Bool.Decides.{nat_tests}
use Rattle.std.proofs.lemmas.List.{append-nil}
use Rattle.std.proofs.lemmas.List.Elements.{filter-append}
use Rattle.go_module.specs.Modules.Paths.{same_text}
use Rattle.go_module.specs.Modules.Packages.{is_home}
use Rattle.go_load.specs.Packages.PathSets.{place_of, home_place, put_in}
use Rattle.go_module.proofs.MemberLemmas.{range_more}
use Rattle.go_load.proofs.PathSetLemmas.{same, same_text-sym, less_differs}

-- the first place behind a path

abbrev behind : Option ℕ → Option ℕ
behind None = None
behind (Some k) = Some (suc k)

behind-cond : (n len : ℕ) → cond (nat_lt (1 + n) (suc len)) (Some (1 + n)) None ≡ behind (cond (nat_lt n len) (Some n) None)
behind-cond n len = behind-test n len (nat_lt n len) (nat_lt (1 + n) (suc len)) (grind (arith, nat_tests))
  where
    behind-test : (n len : ℕ) (b c : Bool) → c ≡ b → cond c (Some (1 + n)) None ≡ behind (cond b (Some n) None)
    behind-test n len true c e = ap (λ t. cond t (Some (1 + n)) None) e ∙ ap Some (let s : 1 + n ≡ suc n = omega arith in s)
    behind-test n len false c e = ap (λ t. cond t (Some (1 + n)) None) e

position-by : (b : Bool) (n len : ℕ) → cond (nat_lt (cond (not b) (1 + n) 0) (suc len)) (Some (cond (not b) (1 + n) 0)) None ≡ cond b (Some 0) (behind (cond (nat_lt n len) (Some n) None))
position-by true n len = ap (λ t. cond t (Some 0) None) (let t : nat_lt 0 (suc len) ≡ true = grind (arith, nat_tests) in t)
position-by false n len = behind-cond n len

position-cons : (q x : List ℕ) (xs : List (List ℕ)) → place_of (x ∷ xs) q ≡ cond (same_text q x) (Some 0) (behind (place_of xs q))
position-cons q x xs = position-by (same_text q x) (position_or_len (same_text q) xs) (length xs)

put-behind : (row : List ℕ) (rows : List (List ℕ)) (place : Option ℕ) (i : ℕ) → put_in (row ∷ rows) (behind place) i ≡ row ∷ put_in rows place i
put-behind row rows None i = refl
put-behind row rows (Some k) i = refl

-- each row with the number, if its path is the one

abbrev added : List ℕ → ℕ → List ℕ → List ℕ
added q i path = cond (same_text path q) (i ∷ []) []

none_added : (g : List ℕ → List ℕ) (q x : List ℕ) (i : ℕ) (xs : List (List ℕ)) → same_text q x ≡ true → AllByRecursion (λ y. slice_cmp nat_cmp x y ≡ Less) xs → map g xs ≡ map (λ path. g path ++ added q i path) xs
none_added g q x i [] e all = refl
none_added g q x i (y ∷ ys) e all =
    let differs : same_text y q ≡ false = same_text-sym y q ∙ ap (λ t. same_text t y) (same q x e) ∙ less_differs x y all.0 in
    ap (λ r. r ∷ map g ys) (sym (append-nil (g y)) ∙ ap (λ b. g y ++ cond b (i ∷ []) []) (sym differs))
    ∙ ap (λ rest. (g y ++ added q i y) ∷ rest) (none_added g q x i ys e all.1)

grouped-by : (g : List ℕ → List ℕ) (q x : List ℕ) (i : ℕ) (xs : List (List ℕ)) (b : Bool) → same_text q x ≡ b → AllByRecursion (λ y. slice_cmp nat_cmp x y ≡ Less) xs → put_in (map g xs) (place_of xs q) i ≡ map (λ path. g path ++ added q i path) xs → put_in (g x ∷ map g xs) (cond b (Some 0) (behind (place_of xs q))) i ≡ (g x ++ cond b (i ∷ []) []) ∷ map (λ path. g path ++ added q i path) xs
grouped-by g q x i xs true e all rest = ap (λ r. (g x ++ i ∷ []) ∷ r) (none_added g q x i xs e all)
grouped-by g q x i xs false e all rest =
    put-behind (g x) (map g xs) (place_of xs q) i
    ∙ ap (λ r. r ∷ put_in (map g xs) (place_of xs q) i) (sym (append-nil (g x)))
    ∙ ap (λ rows. (g x ++ []) ∷ rows) rest

grouped : (g : List ℕ → List ℕ) (q : List ℕ) (i : ℕ) (xs : List (List ℕ)) → IsStrictlySortedBy (slice_cmp nat_cmp) xs → put_in (map g xs) (place_of xs q) i ≡ map (λ path. g path ++ added q i path) xs
unfolding IsStrictlySortedBy
grouped g q i [] sorted = refl
grouped g q i (x ∷ xs) sorted =
    ap (λ place. put_in (g x ∷ map g xs) place i) (position-cons q x xs)
    ∙ grouped-by g q x i xs (same_text q x) refl sorted.0 (grouped g q i xs sorted.1)
    ∙ ap (λ b. (g x ++ cond b (i ∷ []) []) ∷ map (λ path. g path ++ added q i path) xs) (same_text-sym q x)

-- the files below a number

abbrev pub files_below : List (Option (List ℕ)) → ℕ → List ℕ → List ℕ
files_below homes n path = filter (λ i. is_home path (unwrap_or (slice_get homes i) None)) (range_with_len 0 n)

filter-one : (p : ℕ → Bool) (x : ℕ) (b : Bool) → p x ≡ b → filter p (x ∷ []) ≡ cond b (x ∷ []) []
filter-one p x b e = ap (λ t. cond t (x ∷ []) []) e

files_more : (homes : List (Option (List ℕ))) (n : ℕ) (home : Option (List ℕ)) (path : List ℕ) → unwrap_or (slice_get homes n) None ≡ home → files_below homes (n + 1) path ≡ files_below homes n path ++ cond (is_home path home) (n ∷ []) []
files_more homes n home path e =
    let p : ℕ → Bool = λ i. is_home path (unwrap_or (slice_get homes i) None) in
    let one : n + 1 ≡ suc n = omega arith in
    let at : 0 + n ≡ n = omega arith in
    ap (λ m. filter p (range_with_len 0 m)) one
    ∙ ap (filter p) (range_more 0 n ∙ ap (λ m. range_with_len 0 n ++ m ∷ []) at)
    ∙ filter-append p (range_with_len 0 n) (n ∷ [])
    ∙ ap (λ xs. files_below homes n path ++ xs) (filter-one p n (is_home path home) (ap (is_home path) e))

map-alike : (f g : List ℕ → List ℕ) → ((x : List ℕ) → f x ≡ g x) → (xs : List (List ℕ)) → map f xs ≡ map g xs
map-alike f g e [] = refl
map-alike f g e (x ∷ xs) = ap (λ y. y ∷ map f xs) (e x) ∙ ap (λ ys. g x ∷ ys) (map-alike f g e xs)

put-home : (g : List ℕ → List ℕ) (home : Option (List ℕ)) (i : ℕ) (xs : List (List ℕ)) → IsStrictlySortedBy (slice_cmp nat_cmp) xs → put_in (map g xs) (home_place xs home) i ≡ map (λ path. g path ++ cond (is_home path home) (i ∷ []) []) xs
put-home g None i xs sorted = map-alike g (λ path. g path ++ []) (λ path. sym (append-nil (g path))) xs
put-home g (Some q) i xs sorted = grouped g q i xs sorted

home_at : (homes : List (Option (List ℕ))) (n : ℕ) (home : Option (List ℕ)) → n < length homes → home ≡ get_or homes n home → unwrap_or (slice_get homes n) None ≡ home
home_at [] n home lt e = absurd (omega arith)
home_at (h ∷ homes) zero home lt e = sym e
home_at (h ∷ homes) (suc n) home lt e = home_at homes n home (omega arith) e

-- one more file in its row
pub group_more : (homes : List (Option (List ℕ))) (paths : List (List ℕ)) (n : ℕ) (home : Option (List ℕ)) (old new : List (List ℕ)) → IsStrictlySortedBy (slice_cmp nat_cmp) paths → n < length homes → home ≡ get_or homes n home → old ≡ map (files_below homes n) paths → new ≡ put_in old (home_place paths home) n → new ≡ map (files_below homes (n + 1)) paths
group_more homes paths n home old new sorted lt is so_far now =
    now
    ∙ ap (λ rows. put_in rows (home_place paths home) n) so_far
    ∙ put-home (files_below homes n) home n paths sorted
    ∙ sym (map-alike (files_below homes (n + 1)) (λ path. files_below homes n path ++ cond (is_home path home) (n ∷ []) []) (λ path. files_more homes n home path (home_at homes n home lt is)) paths)

-- at first the rows are empty
pub group_none : (homes : List (Option (List ℕ))) (paths : List (List ℕ)) → replicate (length paths) [] ≡ map (files_below homes 0) paths
group_none homes [] = refl
group_none homes (p ∷ paths) = ap (λ rows. [] ∷ rows) (group_none homes paths)
