-- Lemmas on specs/ModuleFolders.antt.
use Rattle.std.proofs.Common.{◌≡◌, ℕ, ◌-◌, ◌<◌, Bool, true, false, ◌||◌, ◌&&◌, List, [], ◌∷◌, ◌++◌, length, map, take, drop, refl, sym, ap, ◌∙◌, subst, nat_eq, nat_lt, codes, Bor, arith}
use Rattle.std.specs.Prelude.{if◌then◌else◌}
use Rattle.std.specs.Cmp.Lexicographic.{pointwise}
use Rattle.std.specs.List.{list_any}
use Rattle.indexmap.specs.IndexSet.{insert_key}
use Rattle.std.proofs.lemmas.Bool.Decides.{nat_tests}
use Rattle.std.proofs.lemmas.List.{map-append, drop-append-le, take-append-le, drop_all, take_all, length-append, take-append-drop}
use Rattle.std.proofs.lemmas.List.Folds.{list_any-append}
use Rattle.std.proofs.lemmas.Slice.Eq.{bytes_eq-Decides}
use Rattle.go_mod.specs.ModuleFolders.{is_one, is_own_module_file}
use Rattle.go_mod.specs.Listing.{has_own_module}

same_truth : (a b : Bool) → (a ≡ true → b ≡ true) → (b ≡ true → a ≡ true) → a ≡ b
same_truth true b there back = sym (there refl)
same_truth false true there back = back refl
same_truth false false there back = refl

same : (a b : List ℕ) → pointwise nat_eq a b ≡ true → a ≡ b
same a b e = (bytes_eq-Decides a b).0 e

same-refl : (a b : List ℕ) → a ≡ b → pointwise nat_eq a b ≡ true
same-refl a b e = (bytes_eq-Decides a b).1 e

or_false : (a : Bool) → (a || false) ≡ a
or_false true = refl
or_false false = refl

or_true : (a : Bool) → (a || true) ≡ true
or_true true = refl
or_true false = refl

-- the keys of a set as folders
pub one-keys : (folder : List ℕ) (keys : List (Bor (List ℕ))) → list_any (λ k. pointwise nat_eq folder k.now) keys ≡ is_one (map (λ k. k.now) keys) folder
one-keys folder [] = refl
one-keys folder (k ∷ keys) = ap (λ b. pointwise nat_eq folder k.now || b) (one-keys folder keys)

one-push : (folders : List (List ℕ)) (x y : List ℕ) → is_one (folders ++ x ∷ []) y ≡ (is_one folders y || pointwise nat_eq y x)
one-push folders x y = list_any-append (pointwise nat_eq y) folders (x ∷ []) ∙ ap (λ b. is_one folders y || b) (or_false (pointwise nat_eq y x))

one-there : (folders : List (List ℕ)) (x y : List ℕ) (s : Bool) → is_one folders x ≡ true → pointwise nat_eq y x ≡ s → is_one folders y ≡ (is_one folders y || s)
one-there folders x y true there e = ap (is_one folders) (same y x e) ∙ there ∙ sym (or_true (is_one folders y))
one-there folders x y false there e = sym (or_false (is_one folders y))

one-insert-by : (keys : List (Bor (List ℕ))) (x : Bor (List ℕ)) (y : List ℕ) (there : Bool) → list_any (λ k. pointwise nat_eq x.now k.now) keys ≡ there → is_one (map (λ k. k.now) (if there then keys else keys ++ x ∷ [])) y ≡ (is_one (map (λ k. k.now) keys) y || pointwise nat_eq y x.now)
one-insert-by keys x y true e = one-there (map (λ (k : Bor (List ℕ)). k.now) keys) x.now y (pointwise nat_eq y x.now) (sym (one-keys x.now keys) ∙ e) refl
one-insert-by keys x y false e =
    ap (λ folders. is_one folders y) (map-append (λ (k : Bor (List ℕ)). k.now) keys (x ∷ []))
    ∙ one-push (map (λ (k : Bor (List ℕ)). k.now) keys) x.now y

-- one folder more in a set
pub one-insert : (keys : List (Bor (List ℕ))) (x : Bor (List ℕ)) (y : List ℕ) → is_one (map (λ k. k.now) (insert_key (λ a b. pointwise nat_eq a.now b.now) keys x)) y ≡ (is_one (map (λ k. k.now) keys) y || pointwise nat_eq y x.now)
one-insert keys x y = one-insert-by keys x y (list_any (λ k. pointwise nat_eq x.now k.now) keys) refl

-- the go.mod of a folder, by the end of its path

cut_back : (front end : List ℕ) → drop (length (front ++ end) - length end) (front ++ end) ≡ end
cut_back front end =
    let at : length (front ++ end) - length end ≡ length front = omega (arith, length-append front end) in
    ap (λ n. drop n (front ++ end)) at
    ∙ drop-append-le (length front) front end (omega arith)
    ∙ ap (λ (none : List ℕ). none ++ end) (drop_all (length front) front (omega arith))

cut_front : (front end : List ℕ) → take (length (front ++ end) - length end) (front ++ end) ≡ front
cut_front front end =
    let at : length (front ++ end) - length end ≡ length front = omega (arith, length-append front end) in
    ap (λ n. take n (front ++ end)) at
    ∙ take-append-le (length front) front end (omega arith)
    ∙ take_all (length front) front (omega arith)

and-second : (a b : Bool) → (a && b) ≡ true → b ≡ true
and-second true b e = e
and-second false b e = cc

and-first : (a b : Bool) → (a && b) ≡ true → a ≡ true
and-first true b e = refl
and-first false b e = e

and-both : (a b : Bool) → a ≡ true → b ≡ true → (a && b) ≡ true
and-both true b e f = f
and-both false b e f = cc

is_file : (folder path : List ℕ) → is_own_module_file folder path ≡ true → folder ++ codes "/go.mod" ≡ path
is_file folder path e = same (folder ++ codes "/go.mod") path (and-second (nat_lt 0 (length folder)) _ e)

-- no path that ends otherwise is a go.mod
pub other_end : (path folder : List ℕ) → pointwise nat_eq (drop (length path - 7) path) (codes "/go.mod") ≡ false → false ≡ is_own_module_file folder path
other_end path folder other = same_truth false (is_own_module_file folder path) (λ e. cc)
    (λ e. let path_is = is_file folder path e in
    let end : drop (length path - 7) path ≡ codes "/go.mod" =
    subst (λ (p : List ℕ). drop (length p - 7) p ≡ codes "/go.mod") path_is (cut_back folder (codes "/go.mod")) in
    sym other ∙ same-refl _ _ end)

-- the front of a path that ends so
pub front_is : (path own : List ℕ) → pointwise nat_eq (drop (length path - 7) path) (codes "/go.mod") ≡ true → own ≡ take (length path - 7) path → (folder : List ℕ) → is_own_module_file folder path ≡ (nat_lt 0 (length folder) && pointwise nat_eq folder own)
front_is path own end is folder = same_truth _ _
    (λ e. let path_is = is_file folder path e in
    let front : take (length path - 7) path ≡ folder =
    subst (λ (p : List ℕ). take (length p - 7) p ≡ folder) path_is (cut_front folder (codes "/go.mod")) in
    and-both _ _ (and-first _ (pointwise nat_eq (folder ++ codes "/go.mod") path) e) (same-refl folder own (sym front ∙ sym is)))
    (λ e. let folder_is : folder ≡ take (length path - 7) path = same folder own (and-second (nat_lt 0 (length folder)) _ e) ∙ is in
    let n = length path - 7 in
    let whole : folder ++ codes "/go.mod" ≡ path =
    ap (λ (f : List ℕ). f ++ codes "/go.mod") folder_is
    ∙ sym (ap (λ (end : List ℕ). take n path ++ end) (same (drop n path) (codes "/go.mod") end))
    ∙ take-append-drop n path in
    and-both _ _ (and-first _ (pointwise nat_eq folder own) e) (same-refl (folder ++ codes "/go.mod") path whole))

and-false : (b : Bool) → (b && false) ≡ false
and-false true = refl
and-false false = refl

and-any : (b : Bool) (p : List ℕ → Bool) (paths : List (List ℕ)) → list_any (λ path. b && p path) paths ≡ (b && list_any p paths)
and-any true p paths = refl
and-any false p [] = refl
and-any false p (path ∷ paths) = and-any false p paths

-- a folder has a module of its own where its go.mod is one of the paths
pub own-any : (paths : List (List ℕ)) (folder : List ℕ) → list_any (is_own_module_file folder) paths ≡ has_own_module paths folder
own-any paths folder = and-any (nat_lt 0 (length folder)) (pointwise nat_eq (folder ++ codes "/go.mod")) paths

-- a folder that is the front of a go.mod's path, by whether that front is the root
pub root_is_none : (folder own : List ℕ) → length own ≡ 0 → false ≡ (nat_lt 0 (length folder) && pointwise nat_eq folder own)
root_is_none [] own none = refl
root_is_none (f ∷ folder) [] none = sym (and-false (nat_lt 0 (length (f ∷ folder))))
root_is_none (f ∷ folder) (o ∷ own) none = absurd (omega arith)

pub other_is_one : (folder own : List ℕ) → 0 < length own → pointwise nat_eq folder own ≡ (nat_lt 0 (length folder) && pointwise nat_eq folder own)
other_is_one [] [] some = absurd (omega arith)
other_is_one [] (o ∷ own) some = refl
other_is_one (f ∷ folder) own some =
    let more : nat_lt 0 (length (f ∷ folder)) ≡ true = grind (arith, nat_tests) in
    sym (ap (λ b. b && pointwise nat_eq (f ∷ folder) own) more)
