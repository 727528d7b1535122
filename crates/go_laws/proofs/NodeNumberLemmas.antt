-- The numbers of the nodes of a module: they ascend, so a number tells its node.
use Rattle.std.proofs.Common.{◌≡◌, ℕ, zero, suc, ◌+◌, ◌<◌, ◌≤◌, true, Option, Some, None, List, [], ◌∷◌, ◌++◌, length, map, get_or, Contains, refl, sym, ap, ◌∙◌, subst, ⊎_elim, arith}
use Rattle.std.specs.Prelude.{AllPairs, slice_get, unwrap_or}
use Rattle.std.specs.List.{cons_option, filter_map, range_with_len}
use Rattle.std.specs.List.Sorted.{IsStrictlySortedBy}
use Rattle.std.specs.Cmp.Lexicographic.{slice_cmp}
use Rattle.std.specs.Ordering.{nat_cmp}
use Rattle.std.proofs.lemmas.Bool.{cases_eq, false≢true}
use Rattle.std.proofs.lemmas.List.{map-append}
use Rattle.std.proofs.lemmas.List.Elements.{Contains-append_cases, Contains-append_right, Contains-get_or}
use Rattle.std.proofs.lemmas.List.FromFn.{get_or-range_with_len, length-range_with_len}
use Rattle.std.proofs.lemmas.List.Kept.{AllPairs-cons, AllPairs-filter}
use Rattle.std.proofs.lemmas.Option.{none-some, same_Some}
use Rattle.go_tree.specs.Tree.{Tree, Trees, branch, id_of, more_trees, no_trees, node_count, node_count_of_all}
use Rattle.go_text.specs.Copies.{with_copies}
use Rattle.go_text.specs.Files.{IsFileOf}
use Rattle.go_text.specs.Numbers.{all_numbered, numbered}
use Rattle.go_graph.specs.Graph.{row_at}
use Rattle.go_module.specs.Modules.Module.{AreTrees, FileData, IsLoaded, ModuleData, PackageData, files_from, first_number, in_order, package_at}
use Rattle.go_module.specs.Modules.Packages.{files_of, is_home}
use Rattle.go_module.specs.Modules.Paths.{homes, own_paths}
use Rattle.go_module.specs.Modules.Texts.{SourceText}
use Rattle.go_module.proofs.MemberLemmas.{contains_head, contains_none, contains_tail, range_more}
use Rattle.go_mod.specs.Folders.{Folder}
use Rattle.go_load.specs.Loading.{IsModule}
use Rattle.go_load.proofs.AssemblyLemmas.{one_place, order_once}
use Rattle.go_load.proofs.FrontLemmas.{one_place_of, result_at}
use Rattle.go_load.proofs.PathSetLemmas.{same}
use Rattle.go_load.proofs.SlotLemmas.{passes}
use Rattle.go_laws.specs.NodeNumbers.{NodeNumbersAscend, nodes_by_end, nodes_by_end_among, nodes_in_files, numbers_in_files}
use Rattle.go_model.proofs.FlatLemmas.{flat_cases, flat_contains, map_cases, map_contains}
use Rattle.go_laws.proofs.ListLemmas.{found_from, in_range}
use Rattle.go_laws.proofs.PickedLemmas.{one_numbered, pairs_ascend}

-- LISTS OF NUMBERS THAT ASCEND: the first is below the others, and two such lists, one below the other, make one

abbrev pub Ascends : List ℕ → Type 0
Ascends xs = AllPairs (λ (a b : ℕ). a < b) xs

pub first_below : (x : ℕ) (xs : List ℕ) → Ascends (x ∷ xs) → (y : ℕ) → Contains xs y → x < y
first_below x xs up y h = subst (λ n. x < n) h.2 (up 0 (suc h.0) y (omega arith) (let lt = h.1 in omega (arith, lt)))

pub rest_ascends : (x : ℕ) (xs : List ℕ) → Ascends (x ∷ xs) → Ascends xs
rest_ascends x xs up i j d lt within = up (suc i) (suc j) d (omega (arith, lt)) (omega (arith, within))

none_ascends : Ascends []
none_ascends i j d lt within = absurd (omega (arith, within))

more_ascends : (x : ℕ) (xs : List ℕ) → ((y : ℕ) → Contains xs y → x < y) → Ascends xs → Ascends (x ∷ xs)
more_ascends x xs below up = AllPairs-cons (λ (a b : ℕ). a < b) x xs (λ k d within. below (get_or xs k d) (Contains-get_or xs k d within)) up

joined_ascends : (xs ys : List ℕ) → Ascends xs → Ascends ys → ((x y : ℕ) → Contains xs x → Contains ys y → x < y) → Ascends (xs ++ ys)
joined_ascends [] ys up more apart = more
joined_ascends (x ∷ xs) ys up more apart =
    more_ascends x (xs ++ ys)
    (λ y h. ⊎_elim (λ (here : Contains xs y). first_below x xs up y here) (λ (there : Contains ys y). apart x y (contains_head x xs x refl) there) (Contains-append_cases xs ys y h))
    (joined_ascends xs ys (rest_ascends x xs up) more (λ z y h i. apart z y (contains_tail x xs z h) i))

-- so do those of a range, which go on from one range to the next
range_ascends : (a n : ℕ) → Ascends (range_with_len a n)
range_ascends a n i j d lt within =
    let long = length-range_with_len a n in
    let at_i = get_or-range_with_len a n i d (omega arith) in
    let at_j = get_or-range_with_len a n j d (omega arith) in
    omega arith

range_append : (a m n : ℕ) → range_with_len a (m + n) ≡ range_with_len a m ++ range_with_len (a + m) n
range_append a zero n =
    let count : zero + n ≡ n = omega arith in
    let start : a ≡ a + zero = omega arith in
    ap (range_with_len a) count ∙ ap (λ b. range_with_len b n) start
range_append a (suc m) n =
    let count : suc m + n ≡ suc (m + n) = omega arith in
    let start : (a + 1) + m ≡ a + suc m = omega arith in
    ap (range_with_len a) count
    ∙ ap (λ xs. a ∷ xs) (range_append (a + 1) m n)
    ∙ ap (λ b. a ∷ (range_with_len (a + 1) m ++ range_with_len b n)) start

-- EACH STANDS ONCE: of things whose numbers ascend, two with one number stand at one place
module _ {X : Type 0} (number : X → ℕ) where
  pub stands_once : (xs ys us vs : List X) (x y : X) → Ascends (map number (xs ++ x ∷ ys)) → xs ++ x ∷ ys ≡ us ++ y ∷ vs → number x ≡ number y → (xs ≡ us) × (x ≡ y) × (ys ≡ vs)
  stands_once [] ys [] vs x y up same e =
      let first : x ≡ y = cc in
      let rest : ys ≡ vs = cc in
      (refl, first, rest)
  stands_once [] ys (u ∷ us) vs x y up same e =
      let rest : ys ≡ us ++ y ∷ vs = cc in
      let there : Contains ys y = subst (λ (zs : List X). Contains zs y) (sym rest) (Contains-append_right us (y ∷ vs) y (contains_head y vs y refl)) in
      let below = first_below (number x) (map number ys) up (number y) (map_contains number ys y there) in
      absurd (omega (arith, below, e))
  stands_once (a ∷ xs) ys [] vs x y up same e =
      let first : a ≡ y = cc in
      let is = ap number first in
      let there = map_contains number (xs ++ x ∷ ys) x (Contains-append_right xs (x ∷ ys) x (contains_head x ys x refl)) in
      let below = first_below (number a) (map number (xs ++ x ∷ ys)) up (number x) there in
      absurd (omega (arith, below, is, e))
  stands_once (a ∷ xs) ys (u ∷ us) vs x y up same e =
      let first : a ≡ u = cc in
      let rest : xs ++ x ∷ ys ≡ us ++ y ∷ vs = cc in
      let later = stands_once xs ys us vs x y (rest_ascends (number a) (map number (xs ++ x ∷ ys)) up) rest e in
      ((λ i. first i ∷ later.0 i), later.1, later.2)

-- THE NUMBERS OF A FILE: those of a range, in the order in which its nodes end

abbrev pub numbers_in : Tree → List ℕ
numbers_in t = map id_of (nodes_by_end t)

mutual
  numbers_are : (first : ℕ) (t : Tree) → map id_of (nodes_by_end (numbered first t)) ≡ range_with_len first (node_count t)
  numbers_are first (branch id from to kind text parts) =
      let count : suc (node_count_of_all parts) ≡ 1 + node_count_of_all parts = omega arith in
      map-append id_of (nodes_by_end_among (all_numbered first parts)) (numbered first (branch id from to kind text parts) ∷ [])
      ∙ ap (λ (ns : List ℕ). ns ++ (first + node_count_of_all parts) ∷ []) (numbers_among_are first parts)
      ∙ sym (range_more first (node_count_of_all parts))
      ∙ ap (range_with_len first) count

  numbers_among_are : (first : ℕ) (ts : Trees) → map id_of (nodes_by_end_among (all_numbered first ts)) ≡ range_with_len first (node_count_of_all ts)
  numbers_among_are first no_trees = refl
  numbers_among_are first (more_trees t ts) =
      map-append id_of (nodes_by_end (numbered first t)) (nodes_by_end_among (all_numbered (first + node_count t) ts))
      ∙ ap (λ (ns : List ℕ). ns ++ map id_of (nodes_by_end_among (all_numbered (first + node_count t) ts))) (numbers_are first t)
      ∙ ap (λ (ns : List ℕ). range_with_len first (node_count t) ++ ns) (numbers_among_are (first + node_count t) ts)
      ∙ sym (range_append first (node_count t) (node_count_of_all ts))

-- the numbers of a tree's nodes ascend, from one on up to its own
record NumberedFrom (first : ℕ) (t : Tree) : Type 0 where
  ascend : Ascends (numbers_in t)
  within : (n : ℕ) → Contains (numbers_in t) n → (first ≤ n) × (n < id_of t + 1)
  some : first < id_of t + 1

numbered_from : (first : ℕ) (t : Tree) → NumberedFrom first (numbered first t)
numbered_from first (branch id from to kind text parts) =
    let are = numbers_are first (branch id from to kind text parts) in
    let end : first + (1 + node_count_of_all parts) ≡ (first + node_count_of_all parts) + 1 = omega arith in
    record {
      ascend = subst Ascends (sym are) (range_ascends first (1 + node_count_of_all parts));
      within = λ n h. (let inside = in_range first (1 + node_count_of_all parts) n (subst (λ (ns : List ℕ). Contains ns n) are h) in (inside.0, subst (λ m. n < m) end inside.1));
      some = omega arith;
    }

file_numbered : (bytes : List ℕ) (first : ℕ) (tree : Tree) → IsFileOf bytes first tree → NumberedFrom first tree
file_numbered bytes first tree is = subst (NumberedFrom first) (sym is.tree_is) (numbered_from first (with_copies is.written))

-- THE NUMBERS OF THE FILES OF A MODULE: each file's are behind those of the files before it

-- the file at a place has ascending numbers, from the first on, and below those of a file behind it
file_ascends : (number first : ℕ) (texts : List SourceText) (trees : List Tree) (i : ℕ) (f : FileData) → AreTrees first texts trees → slice_get (files_from number texts trees) i ≡ Some f → Ascends (numbers_in f.tree)
file_ascends number first [] trees i f are e = absurd (none-some f e)
file_ascends number first (x ∷ xs) [] i f are e = absurd (none-some f e)
file_ascends number first (x ∷ xs) (t ∷ ts) zero f are e =
    let is = same_Some (record { path = x.path; bytes = x.bytes; number = number; tree = t }) f e in
    subst (λ (g : FileData). Ascends (numbers_in g.tree)) is (file_numbered x.bytes first t are.0).ascend
file_ascends number first (x ∷ xs) (t ∷ ts) (suc i) f are e = file_ascends (number + 1) (id_of t + 1) xs ts i f are.1 e

file_from : (number first : ℕ) (texts : List SourceText) (trees : List Tree) (i : ℕ) (f : FileData) → AreTrees first texts trees → slice_get (files_from number texts trees) i ≡ Some f → (n : ℕ) → Contains (numbers_in f.tree) n → first ≤ n
file_from number first [] trees i f are e n h = absurd (none-some f e)
file_from number first (x ∷ xs) [] i f are e n h = absurd (none-some f e)
file_from number first (x ∷ xs) (t ∷ ts) zero f are e n h =
    let is = same_Some (record { path = x.path; bytes = x.bytes; number = number; tree = t }) f e in
    let here : Contains (numbers_in t) n = subst (λ (g : FileData). Contains (numbers_in g.tree) n) (sym is) h in
    ((file_numbered x.bytes first t are.0).within n here).0
file_from number first (x ∷ xs) (t ∷ ts) (suc i) f are e n h =
    let some = (file_numbered x.bytes first t are.0).some in
    let later = file_from (number + 1) (id_of t + 1) xs ts i f are.1 e n h in
    omega (arith, some, later)

file_before : (number first : ℕ) (texts : List SourceText) (trees : List Tree) (i j : ℕ) (f g : FileData) → AreTrees first texts trees → i < j → slice_get (files_from number texts trees) i ≡ Some f → slice_get (files_from number texts trees) j ≡ Some g → (a b : ℕ) → Contains (numbers_in f.tree) a → Contains (numbers_in g.tree) b → a < b
file_before number first [] trees i j f g are lt e d a b h k = absurd (none-some f e)
file_before number first (x ∷ xs) [] i j f g are lt e d a b h k = absurd (none-some f e)
file_before number first (x ∷ xs) (t ∷ ts) i zero f g are lt e d a b h k = absurd (omega (arith, lt))
file_before number first (x ∷ xs) (t ∷ ts) zero (suc j) f g are lt e d a b h k =
    let is = same_Some (record { path = x.path; bytes = x.bytes; number = number; tree = t }) f e in
    let here : Contains (numbers_in t) a = subst (λ (g : FileData). Contains (numbers_in g.tree) a) (sym is) h in
    let below = ((file_numbered x.bytes first t are.0).within a here).1 in
    let later = file_from (number + 1) (id_of t + 1) xs ts j g are.1 d b k in
    omega (arith, below, later)
file_before number first (x ∷ xs) (t ∷ ts) (suc i) (suc j) f g are lt e d a b h k = file_before (number + 1) (id_of t + 1) xs ts i j f g are.1 (omega (arith, lt)) e d a b h k

-- THE NUMBERS OF A PACKAGE: where its files stand at ascending places, they ascend, and a number stands at one place

-- a number of files that are joined is one of theirs
files_joined : (f : FileData) (files : List FileData) → numbers_in_files (f ∷ files) ≡ numbers_in f.tree ++ numbers_in_files files
files_joined f files = map-append id_of (nodes_by_end f.tree) (nodes_in_files files)

-- a file at a place, one of whose nodes has a number
record HasNumber (files : List FileData) (n i : ℕ) : Type 0 where
  file : FileData
  at : slice_get files i ≡ Some file
  number : Contains (numbers_in file.tree) n

module _ (files : List FileData) where
  -- the files at these places
  abbrev picked : List ℕ → List FileData
  picked places = filter_map (slice_get files) places

  abbrev From : List ℕ → ℕ → Type 0
  From places n = (i : ℕ) × Contains places i × HasNumber files n i

  number_from : (places : List ℕ) (n : ℕ) → Contains (numbers_in_files (picked places)) n → From places n
  number_from places n h =
      let node = map_cases id_of (nodes_in_files (picked places)) n h in
      let from = flat_cases (λ (f : FileData). nodes_by_end f.tree) (picked places) node.0 node.1 in
      let place = found_from (slice_get files) places from.0 from.1 in
      let own : Contains (numbers_in from.0.tree) n = subst (λ (x : ℕ). Contains (numbers_in from.0.tree) x) node.2 (map_contains id_of (nodes_by_end from.0.tree) node.0 from.2) in
      (place.0, place.1, record { file = from.0; at = place.2; number = own })

  module _ (own : (i : ℕ) (f : FileData) → slice_get files i ≡ Some f → Ascends (numbers_in f.tree))
      (before : (i j : ℕ) (f g : FileData) → i < j → slice_get files i ≡ Some f → slice_get files j ≡ Some g → (a b : ℕ) → Contains (numbers_in f.tree) a → Contains (numbers_in g.tree) b → a < b) where
    picked_by : (i : ℕ) (places : List ℕ) → Ascends (i ∷ places) → (found : Option FileData) → slice_get files i ≡ found → Ascends (numbers_in_files (picked places)) → Ascends (numbers_in_files (cons_option found (picked places)))
    picked_by i places up None e later = later
    picked_by i places up (Some f) e later =
        subst Ascends (sym (files_joined f (picked places)))
        (joined_ascends (numbers_in f.tree) (numbers_in_files (picked places)) (own i f e) later
        (λ a b h k. (let there = number_from places b k in
        before i there.0 f there.2.file (first_below i places up there.0 there.1) e there.2.at a b h there.2.number)))

    picked_ascends : (places : List ℕ) → Ascends places → Ascends (numbers_in_files (picked places))
    picked_ascends [] up = none_ascends
    picked_ascends (i ∷ places) up = picked_by i places up (slice_get files i) refl (picked_ascends places (rest_ascends i places up))

    -- a number stands at one place
    never_before : (n i j : ℕ) → HasNumber files n i → HasNumber files n j → i < j → ⊥
    never_before n i j f g lt = let below = before i j f.file g.file lt f.at g.at n n f.number g.number in omega (arith, below)

    one_file : (n i j : ℕ) → HasNumber files n i → HasNumber files n j → i ≡ j
    one_file n i j f g = omega (arith, never_before n i j f g, never_before n j i g f)

-- the places of the files of a package ascend, and no two packages have one
row_ascends : (homes : List (Option (List ℕ))) (paths : List (List ℕ)) (k : ℕ) → Ascends (row_at (map (files_of homes) paths) k)
row_ascends homes [] k = none_ascends
row_ascends homes (p ∷ paths) zero =
    AllPairs-filter (λ (i j : ℕ). i < j) (λ i. is_home p (unwrap_or (slice_get homes i) None)) (range_with_len 0 (length homes)) (range_ascends 0 (length homes))
row_ascends homes (p ∷ paths) (suc k) = row_ascends homes paths k

in_row : (f : List ℕ → List ℕ) (paths : List (List ℕ)) (k j : ℕ) → Contains (row_at (map f paths) k) j → (p : List ℕ) × (slice_get paths k ≡ Some p) × Contains (f p) j
in_row f [] k j h = absurd (contains_none j h)
in_row f (p ∷ paths) zero j h = (p, refl, h)
in_row f (p ∷ paths) (suc k) j h = in_row f paths k j h

one_home : (home : Option (List ℕ)) (p q : List ℕ) → is_home p home ≡ true → is_home q home ≡ true → p ≡ q
one_home None p q a b = absurd (false≢true a)
one_home (Some r) p q a b = same p r a ∙ sym (same q r b)

one_row : (homes : List (Option (List ℕ))) (paths : List (List ℕ)) → IsStrictlySortedBy (slice_cmp nat_cmp) paths → (i k j : ℕ) → Contains (row_at (map (files_of homes) paths) i) j → Contains (row_at (map (files_of homes) paths) k) j → i ≡ k
one_row homes paths sorted i k j here there =
    let a = in_row (files_of homes) paths i j here in
    let b = in_row (files_of homes) paths k j there in
    let home_a = passes (λ i. is_home a.0 (unwrap_or (slice_get homes i) None)) (range_with_len 0 (length homes)) j a.2 in
    let home_b = passes (λ i. is_home b.0 (unwrap_or (slice_get homes i) None)) (range_with_len 0 (length homes)) j b.2 in
    let alike : b.0 ≡ a.0 = one_home (unwrap_or (slice_get homes j) None) b.0 a.0 home_b.1 home_a.1 in
    one_place paths i k a.0 sorted a.1 (b.1 ∙ ap (λ (p : List ℕ). Some p) alike)

-- THE MODULE: its packages have ascending places of files, and no two have one

module _ (m : ModuleData) (is : IsLoaded m) where
  abbrev files : List FileData
  files = files_from 0 is.texts is.trees

  abbrev order : List ℕ
  order = in_order is.table is.is_module.order

  abbrev made : ℕ → PackageData
  made = package_at files is.heads is.table order

  abbrev home_of : List (Option (List ℕ))
  home_of = homes is.path (own_paths is.path is.heads) is.heads

  -- a package of the module, by its number in the table
  record IsMade (k : ℕ) (p : PackageData) : Type 0 where
    number : ℕ
    at : slice_get order k ≡ Some number
    package_is : made number ≡ p

  is_made : (k : ℕ) (p : PackageData) → slice_get m.packages k ≡ Some p → IsMade k p
  is_made k p at =
      let r = result_at made order k p (subst (λ (x : ModuleData). slice_get x.packages k ≡ Some p) is.is_module.module_is at) in
      record { number = r.0; at = r.1; package_is = r.2 }

  own_ascend : (i : ℕ) (f : FileData) → slice_get files i ≡ Some f → Ascends (numbers_in f.tree)
  own_ascend i f e = file_ascends 0 first_number is.texts is.trees i f is.parts.are_trees e

  before_others : (i j : ℕ) (f g : FileData) → i < j → slice_get files i ≡ Some f → slice_get files j ≡ Some g → (a b : ℕ) → Contains (numbers_in f.tree) a → Contains (numbers_in g.tree) b → a < b
  before_others i j f g lt e d a b h k = file_before 0 first_number is.texts is.trees i j f g is.parts.are_trees lt e d a b h k

  rows_ascend : (n : ℕ) → Ascends (row_at is.table.files n)
  rows_ascend n = subst (λ (rows : List (List ℕ)). Ascends (row_at rows n)) (sym is.parts.is_table.files) (row_ascends home_of is.table.paths n)

  rows_apart : (i k j : ℕ) → Contains (row_at is.table.files i) j → Contains (row_at is.table.files k) j → i ≡ k
  rows_apart i k j here there =
      let rows = is.parts.is_table.files in
      one_row home_of is.table.paths is.parts.is_table.paths.ascending i k j
      (subst (λ (rows : List (List ℕ)). Contains (row_at rows i) j) rows here)
      (subst (λ (rows : List (List ℕ)). Contains (row_at rows k) j) rows there)

  -- the place of the file of a number of a package
  placed : (k : ℕ) (p : PackageData) (x : IsMade k p) (n : ℕ) → Contains (numbers_in_files p.files) n → From files (row_at is.table.files x.number) n
  placed k p x n h = number_from files (row_at is.table.files x.number) n (subst (λ (q : PackageData). Contains (numbers_in_files q.files) n) (sym x.package_is) h)

  -- two packages with one number are one
  one_package : (j k : ℕ) (p q : PackageData) → IsMade j p → IsMade k q → (n : ℕ) → Contains (numbers_in_files p.files) n → Contains (numbers_in_files q.files) n → j ≡ k
  one_package j k p q x y n h i =
      let a = placed j p x n h in
      let b = placed k q y n i in
      let place : b.0 ≡ a.0 = one_file files own_ascend before_others n b.0 a.0 b.2 a.2 in
      let row : y.number ≡ x.number = rows_apart y.number x.number a.0 (subst (λ (f : ℕ). Contains (row_at is.table.files y.number) f) place b.1) a.1 in
      one_place_of order j k x.number (order_once is.table order (record { order = is.is_module.order; is_order = is.is_module.is_order; list_is = refl })) x.at
      (y.at ∙ ap (λ (n : ℕ). Some n) row)

  pub loaded_ascend : NodeNumbersAscend m
  loaded_ascend = record {
    ascend = λ k p at.
        let x = is_made k p at in
        subst (λ (q : PackageData). Ascends (numbers_in_files q.files)) x.package_is (picked_ascends files own_ascend before_others (row_at is.table.files x.number) (rows_ascend x.number));
    from_first = λ k p at n h.
        let there = placed k p (is_made k p at) n h in
        file_from 0 first_number is.texts is.trees there.0 there.2.file is.parts.are_trees there.2.at n there.2.number;
    apart = λ j k p q ne at_j at_k n h i. ne (one_package j k p q (is_made j p at_j) (is_made k q at_k) n h i);
  }

pub node_numbers_ascend : (own stubs : Folder) (m : ModuleData) → IsModule own stubs m → NodeNumbersAscend m
node_numbers_ascend own stubs m is = loaded_ascend m is.loaded

-- two nodes of files of one package with one number are one

in_files : (files : List FileData) (f : FileData) (t : Tree) → Contains files f → Contains (nodes_by_end f.tree) t → Contains (nodes_in_files files) t
in_files files f t h i = flat_contains (λ (g : FileData). nodes_by_end g.tree) files f t h i

pub one_node : (m : ModuleData) → NodeNumbersAscend m → (k : ℕ) (p : PackageData) → slice_get m.packages k ≡ Some p → (f g : FileData) → Contains p.files f → Contains p.files g
    → (s t : Tree) → Contains (nodes_by_end f.tree) s → Contains (nodes_by_end g.tree) t → id_of s ≡ id_of t → s ≡ t
one_node m up k p at f g in_f in_g s t h i e =
    one_numbered id_of (nodes_in_files p.files) s t (pairs_ascend (numbers_in_files p.files) (up.ascend k p at)) (in_files p.files f s in_f h) (in_files p.files g t in_g i) e

-- so are two nodes of a module
pub one_node_of_module : (m : ModuleData) → NodeNumbersAscend m → (j k : ℕ) (p q : PackageData) → slice_get m.packages j ≡ Some p → slice_get m.packages k ≡ Some q
    → (s t : Tree) → Contains (nodes_in_files p.files) s → Contains (nodes_in_files q.files) t → id_of s ≡ id_of t → (j ≡ k) × (s ≡ t)
one_node_of_module m up j k p q at_j at_k s t h i e =
    ⊎_elim
    (λ (same_place : j ≡ k).
    let one : Some q ≡ Some p = sym at_k ∙ ap (slice_get m.packages) (sym same_place) ∙ at_j in
    let is : q ≡ p = cc in
    (same_place, one_numbered id_of (nodes_in_files p.files) s t (pairs_ascend (numbers_in_files p.files) (up.ascend j p at_j)) h (subst (λ (r : PackageData). Contains (nodes_in_files r.files) t) is i) e))
    (λ (ne : j ≡ k → ⊥).
    absurd (up.apart j k p q ne at_j at_k (id_of t)
    (subst (λ (n : ℕ). Contains (numbers_in_files p.files) n) e (map_contains id_of (nodes_in_files p.files) s h))
    (map_contains id_of (nodes_in_files q.files) t i)))
    (cases_eq j k)
