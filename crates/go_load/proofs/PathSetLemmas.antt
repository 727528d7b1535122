-- Lists of paths: their first places, and which paths a list has with one more.
use Rattle.std.proofs.Common.{◌≡◌, ℕ, zero, suc, Bool, true, false, not, ◌||◌, List, [], ◌∷◌, ◌++◌, length, map, get_or, take, ◌+◌, ◌<◌, position, refl, sym, ap, ◌∙◌, nat_eq, Bor, arith}
use Rattle.std.specs.Prelude.{fold, if◌then◌else◌}
use Rattle.std.specs.List.{list_any, prefix_len, AllByRecursion}
use Rattle.std.specs.List.Sorted.{IsStrictlySortedBy}
use Rattle.std.specs.Cmp.Lexicographic.{pointwise, slice_cmp}
use Rattle.std.specs.Ordering.{nat_cmp, is_eq}
use Rattle.std.specs.declared.cmp.Ordering.TheVariants.{Less}
use Rattle.std.proofs.lemmas.List.Sums.{fold-append}
use Rattle.std.proofs.lemmas.Map.Text.{is_eq-slice_cmp}
use Rattle.indexmap.specs.IndexSet.{insert_key}
use Rattle.std.proofs.lemmas.List.Folds.{list_any-append}
use Rattle.std.proofs.lemmas.Slice.Eq.{bytes_eq-Decides}
use Rattle.std.proofs.lemmas.List.{length-map, map-append, append-nil, append_assoc, take_more}
use Rattle.go_module.specs.Modules.Paths.{same_text, has_path}
use Rattle.go_load.specs.Packages.PathSets.{with_path, place_of}

same_truth : (a b : Bool) → (a ≡ true → b ≡ true) → (b ≡ true → a ≡ true) → a ≡ b
same_truth true b there back = sym (there refl)
same_truth false true there back = back refl
same_truth false false there back = refl

pub same : (a b : List ℕ) → same_text a b ≡ true → a ≡ b
same a b e = (bytes_eq-Decides a b).0 e

pub same_text-refl : (a : List ℕ) → same_text a a ≡ true
same_text-refl a = (bytes_eq-Decides a a).1 refl

pub same_text-sym : (a b : List ℕ) → same_text a b ≡ same_text b a
same_text-sym a b =
    same_truth (same_text a b) (same_text b a)
    (λ e. (bytes_eq-Decides b a).1 (sym ((bytes_eq-Decides a b).0 e)))
    (λ e. (bytes_eq-Decides a b).1 (sym ((bytes_eq-Decides b a).0 e)))

pub list_any-map : {A B : Type 0} (p : B → Bool) (f : A → B) (xs : List A) → list_any (λ x. p (f x)) xs ≡ list_any p (map f xs)
list_any-map p f [] = refl
list_any-map p f (x ∷ xs) = ap (λ b. p (f x) || b) (list_any-map p f xs)

prefix_len-map : {A B : Type 0} (p : A → Bool) (q : B → Bool) (f : A → B) → ((x : A) → p x ≡ q (f x)) → (xs : List A) → prefix_len p xs ≡ prefix_len q (map f xs)
prefix_len-map p q f same [] = refl
prefix_len-map p q f same (x ∷ xs) = rw (same x, prefix_len-map p q f same xs) refl

-- the first place of an item, by what the items stand for
position-map : {A B : Type 0} (p : A → Bool) (q : B → Bool) (f : A → B) → ((x : A) → p x ≡ q (f x)) → (xs : List A) → position p xs ≡ position q (map f xs)
position-map p q f same xs =
    let at = prefix_len-map (λ x. not (p x)) (λ y. not (q y)) f (λ x. ap not (same x)) xs in
    let len : length (map f xs) ≡ length xs = length-map xs f in
    rw (at, len) refl

-- the first of the keys that is the path
pub position-of : (keys : List (Bor (List ℕ))) (path : List ℕ) → position (λ k. pointwise nat_eq path k.now) keys ≡ place_of (map (λ k. k.now) keys) path
position-of keys path = position-map (λ (k : Bor (List ℕ)). same_text path k.now) (same_text path) (λ (k : Bor (List ℕ)). k.now) (λ k. refl) keys

-- the keys of a set as paths
pub has-keys : (text : List ℕ) (keys : List (Bor (List ℕ))) → list_any (λ k. pointwise nat_eq text k.now) keys ≡ has_path (map (λ k. k.now) keys) text
has-keys text keys = list_any-map (λ k. same_text text k) (λ (k : Bor (List ℕ)). k.now) keys

with-keys-by : (keys : List (Bor (List ℕ))) (text : Bor (List ℕ)) (there : Bool) → map (λ (k : Bor (List ℕ)). k.now) (if there then keys else keys ++ text ∷ []) ≡ (if there then map (λ (k : Bor (List ℕ)). k.now) keys else map (λ (k : Bor (List ℕ)). k.now) keys ++ text.now ∷ [])
with-keys-by keys text true = refl
with-keys-by keys text false = map-append (λ (k : Bor (List ℕ)). k.now) keys (text ∷ [])

pub with-keys : (keys : List (Bor (List ℕ))) (text : Bor (List ℕ)) → map (λ k. k.now) (insert_key (λ a b. pointwise nat_eq a.now b.now) keys text) ≡ with_path (map (λ k. k.now) keys) text.now
with-keys keys text =
    with-keys-by keys text (list_any (λ k. pointwise nat_eq text.now k.now) keys)
    ∙ ap (λ there. if there then map (λ (k : Bor (List ℕ)). k.now) keys else map (λ (k : Bor (List ℕ)). k.now) keys ++ text.now ∷ []) (has-keys text.now keys)

-- which paths a list has with one path more

or_false : (a : Bool) → (a || false) ≡ a
or_false true = refl
or_false false = refl

or_true : (a : Bool) → (a || true) ≡ true
or_true true = refl
or_true false = refl

or_assoc : (a b c : Bool) → ((a || b) || c) ≡ (a || (b || c))
or_assoc true b c = refl
or_assoc false b c = refl

has-push : (paths : List (List ℕ)) (x y : List ℕ) → has_path (paths ++ x ∷ []) y ≡ (has_path paths y || same_text y x)
has-push paths x y = list_any-append (same_text y) paths (x ∷ []) ∙ ap (λ b. has_path paths y || b) (or_false (same_text y x))

has-there : (paths : List (List ℕ)) (x y : List ℕ) (s : Bool) → has_path paths x ≡ true → same_text y x ≡ s → has_path paths y ≡ (has_path paths y || s)
has-there paths x y true there e = ap (has_path paths) (same y x e) ∙ there ∙ sym (or_true (has_path paths y))
has-there paths x y false there e = sym (or_false (has_path paths y))

has-with-by : (paths : List (List ℕ)) (x y : List ℕ) (there : Bool) → has_path paths x ≡ there → has_path (if there then paths else paths ++ x ∷ []) y ≡ (has_path paths y || same_text y x)
has-with-by paths x y true e = has-there paths x y (same_text y x) e refl
has-with-by paths x y false e = has-push paths x y

pub has-with : (paths : List (List ℕ)) (x y : List ℕ) → has_path (with_path paths x) y ≡ (has_path paths y || same_text y x)
has-with paths x y = has-with-by paths x y (has_path paths x) refl

has-added : (xs paths : List (List ℕ)) (y : List ℕ) → has_path (fold with_path paths xs) y ≡ (has_path paths y || has_path xs y)
has-added [] paths y = sym (or_false (has_path paths y))
has-added (x ∷ xs) paths y =
    has-added xs (with_path paths x) y
    ∙ ap (λ b. b || has_path xs y) (has-with paths x y)
    ∙ or_assoc (has_path paths y) (same_text y x) (has_path xs y)

-- a set of paths has the paths that were added
pub has-set : (xs : List (List ℕ)) (y : List ℕ) → has_path (fold with_path [] xs) y ≡ has_path xs y
has-set xs y = has-added xs [] y

-- what stands at a place, whatever is read past the end
pub at-any : {X : Type 0} (xs : List X) (i : ℕ) (d e : X) → i < length xs → get_or xs i d ≡ get_or xs i e
at-any [] i d e lt = absurd (omega arith)
at-any (x ∷ xs) zero d e lt = refl
at-any (x ∷ xs) (suc i) d e lt = at-any xs i d e (omega arith)

-- one more path added
pub set_more : (xs : List (List ℕ)) (i : ℕ) (x : List ℕ) (old new : List (List ℕ)) → i < length xs → x ≡ get_or xs i x → old ≡ fold with_path [] (take i xs) → new ≡ with_path old x → new ≡ fold with_path [] (take (i + 1) xs)
set_more xs i x old new lt is so_far now =
    now
    ∙ ap (λ paths. with_path paths x) so_far
    ∙ sym (fold-append with_path [] (take i xs) (x ∷ []))
    ∙ ap (λ y. fold with_path [] (take i xs ++ y ∷ [])) is
    ∙ ap (fold with_path []) (sym (take_more xs i x lt))

-- different paths
pub less_differs : (x y : List ℕ) → slice_cmp nat_cmp x y ≡ Less → same_text x y ≡ false
less_differs x y e = sym (is_eq-slice_cmp x y) ∙ ap is_eq e

still_new : (paths : List (List ℕ)) (x : List ℕ) (ys : List (List ℕ)) → AllByRecursion (λ y. slice_cmp nat_cmp x y ≡ Less) ys → AllByRecursion (λ y. has_path paths y ≡ false) ys → AllByRecursion (λ y. has_path (paths ++ x ∷ []) y ≡ false) ys
still_new paths x [] less new = tt
still_new paths x (y ∷ ys) less new =
    (has-push paths x y ∙ ap (λ b. b || same_text y x) new.0 ∙ same_text-sym y x ∙ less_differs x y less.0, still_new paths x ys less.1 new.1)

sorted_added : (xs paths : List (List ℕ)) → IsStrictlySortedBy (slice_cmp nat_cmp) xs → AllByRecursion (λ y. has_path paths y ≡ false) xs → fold with_path paths xs ≡ paths ++ xs
unfolding IsStrictlySortedBy
sorted_added [] paths sorted new = sym (append-nil paths)
sorted_added (x ∷ xs) paths sorted new =
    ap (λ there. fold with_path (if there then paths else paths ++ x ∷ []) xs) new.0
    ∙ sorted_added xs (paths ++ x ∷ []) sorted.1 (still_new paths x xs sorted.0 new.1)
    ∙ append_assoc paths (x ∷ []) xs

all_new : (xs : List (List ℕ)) → AllByRecursion (λ y. has_path [] y ≡ false) xs
all_new [] = tt
all_new (x ∷ xs) = (refl, all_new xs)

-- paths in strictly ascending order are their own set
pub sorted_set : (xs : List (List ℕ)) → IsStrictlySortedBy (slice_cmp nat_cmp) xs → fold with_path [] xs ≡ xs
sorted_set xs sorted = sorted_added xs [] sorted (all_new xs)
