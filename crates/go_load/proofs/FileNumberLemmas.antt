-- The numbers of the files of each package of a module: they ascend.
use Rattle.std.proofs.Common.{◌≡◌, ℕ, zero, suc, ◌+◌, ◌<◌, List, [], ◌∷◌, Option, Some, None, length, map, refl, sym, ap, subst, arith}
use Rattle.std.specs.Prelude.{All, AllPairs, slice_get, unwrap_or}
use Rattle.std.specs.List.{cons_option, filter_map, range_with_len}
use Rattle.std.proofs.lemmas.List.Elements.{All-cons, All-head, All-nil, All-tail}
use Rattle.std.proofs.lemmas.List.FromFn.{get_or-range_with_len, length-range_with_len}
use Rattle.std.proofs.lemmas.List.Kept.{AllPairs-cons, AllPairs-filter}
use Rattle.std.proofs.lemmas.Option.{none-some, same_Some}
use Rattle.go_tree.specs.Tree.{Tree}
use Rattle.go_graph.specs.Graph.{row_at}
use Rattle.go_module.specs.Modules.Module.{FileData, IsLoaded, ModuleData, files_from, in_order, package_at}
use Rattle.go_module.specs.Modules.Packages.{files_of, is_home}
use Rattle.go_module.specs.Modules.Paths.{homes, own_paths}
use Rattle.go_module.specs.Modules.Texts.{SourceText}
use Rattle.go_load.specs.FileNumbers.{NumbersAscend}
use Rattle.go_load.proofs.FrontLemmas.{result_at}

-- what is found for elements in order stands in order
module _ {X Y : Type 0} (find : X → Option Y) (R : X → X → Type 0) (S : Y → Y → Type 0) (keeps : (a b : X) (x y : Y) → R a b → find a ≡ Some x → find b ≡ Some y → S x y) where
  all-by : (a : X) (x : Y) → find a ≡ Some x → (b : X) (bs : List X) (found : Option Y) → find b ≡ found → R a b → All (S x) (filter_map find bs) → All (S x) (cons_option found (filter_map find bs))
  all-by a x at b bs None e r rest = rest
  all-by a x at b bs (Some y) e r rest = All-cons (S x) y (filter_map find bs) (keeps a b x y r at e) rest

  all_found : (a : X) (x : Y) → find a ≡ Some x → (bs : List X) → All (R a) bs → All (S x) (filter_map find bs)
  all_found a x at [] h = All-nil (S x)
  all_found a x at (b ∷ bs) h = all-by a x at b bs (find b) refl (All-head (R a) b bs h) (all_found a x at bs (All-tail (R a) b bs h))

  pairs-by : (a : X) (bs : List X) (found : Option Y) → find a ≡ found → All (R a) bs → AllPairs S (filter_map find bs) → AllPairs S (cons_option found (filter_map find bs))
  pairs-by a bs None e h rest = rest
  pairs-by a bs (Some x) e h rest = AllPairs-cons S x (filter_map find bs) (all_found a x e bs h) rest

  pairs_found : (bs : List X) → AllPairs R bs → AllPairs S (filter_map find bs)
  pairs_found [] h = λ i j d lt within. absurd (omega arith)
  pairs_found (b ∷ bs) h =
      pairs-by b bs (find b) refl
      (λ k d within. h 0 (suc k) d (omega arith) (omega arith))
      (pairs_found bs (λ i j d lt within. h (suc i) (suc j) d (omega arith) (omega arith)))

-- the file at a place has the number of that place
number_at_place : (number : ℕ) (texts : List SourceText) (trees : List Tree) (i : ℕ) (f : FileData) → slice_get (files_from number texts trees) i ≡ Some f → f.number ≡ number + i
number_at_place number [] trees i f e = absurd (none-some f e)
number_at_place number (x ∷ xs) [] i f e = absurd (none-some f e)
number_at_place number (x ∷ xs) (t ∷ ts) zero f e =
    let same = ap (λ (g : FileData). g.number) (same_Some (record { path = x.path; bytes = x.bytes; number = number; tree = t }) f e) in
    omega arith
number_at_place number (x ∷ xs) (t ∷ ts) (suc i) f e =
    let rest = number_at_place (number + 1) xs ts i f e in
    omega arith

-- the numbers of a range ascend
range_ascends : (a n : ℕ) → AllPairs (λ i j. i < j) (range_with_len a n)
range_ascends a n i j d lt within =
    let long = length-range_with_len a n in
    let at_i = get_or-range_with_len a n i d (omega arith) in
    let at_j = get_or-range_with_len a n j d (omega arith) in
    omega arith

-- the places of the files of a package ascend
row_ascends : (homes : List (Option (List ℕ))) (paths : List (List ℕ)) (k : ℕ) → AllPairs (λ i j. i < j) (row_at (map (files_of homes) paths) k)
row_ascends homes [] k = λ i j d lt within. absurd (omega arith)
row_ascends homes (p ∷ paths) zero =
    AllPairs-filter (λ i j. i < j) (λ i. is_home p (unwrap_or (slice_get homes i) None)) (range_with_len 0 (length homes)) (range_ascends 0 (length homes))
row_ascends homes (p ∷ paths) (suc k) = row_ascends homes paths k

pub numbers_ascend : (m : ModuleData) → IsLoaded m → NumbersAscend m
numbers_ascend m is =
    let made = is.is_module in
    let table = is.table in
    let files = files_from 0 is.texts is.trees in
    let list = in_order table made.order in
    let row : (n : ℕ) → AllPairs (λ i j. i < j) (row_at table.files n) =
    λ n. subst (λ (rows : List (List ℕ)). AllPairs (λ i j. i < j) (row_at rows n)) (sym is.parts.is_table.files) (row_ascends (homes is.path (own_paths is.path is.heads) is.heads) table.paths n) in
    let each : (i j : ℕ) (f g : FileData) → i < j → slice_get files i ≡ Some f → slice_get files j ≡ Some g → f.number < g.number =
    λ i j f g lt at_i at_j. omega (arith, number_at_place 0 is.texts is.trees i f at_i, number_at_place 0 is.texts is.trees j g at_j) in
    subst NumbersAscend (sym made.module_is) (λ k p at.
    let n = result_at (package_at files is.heads table list) list k p at in
    subst (λ q. AllPairs (λ (f g : FileData). f.number < g.number) q.files) n.2
    (pairs_found (slice_get files) (λ i j. i < j) (λ f g. f.number < g.number) each (row_at table.files n.0) (row n.0)))
