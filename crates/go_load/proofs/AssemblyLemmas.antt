-- Packages that are made one after another, and the order in which they are made.
use Rattle.std.proofs.Common.{◌≡◌, ℕ, zero, suc, ◌<◌, true, not, ◌==◌, List, [], ◌∷◌, Option, Some, None, length, map, get_or, refl, sym, ap, ◌∙◌, subst, arith}
use Rattle.std.specs.Prelude.{All, position, slice_get, unwrap_or}
use Rattle.std.specs.Cmp.Lexicographic.{slice_cmp}
use Rattle.std.specs.List.{Contains, cons_option, filter_map, range_with_len}
use Rattle.std.specs.List.Sorted.{IsStrictlySortedBy}
use Rattle.std.specs.Ordering.{nat_cmp}
use Rattle.std.proofs.lemmas.Bool.{false≢true}
use Rattle.std.proofs.lemmas.List.{length-map}
use Rattle.std.proofs.lemmas.List.Elements.{All-filter}
use Rattle.std.proofs.lemmas.Map.Keys.{Less-from_sorted}
use Rattle.std.proofs.lemmas.Option.{get_or_from_slice_get, slice_get_within}
use Rattle.go_module.specs.Modules.Texts.{as_text}
use Rattle.go_module.specs.Modules.Heads.{FileHead}
use Rattle.go_graph.specs.Graph.{IsGraph, row_at, is_marked}
use Rattle.go_module.specs.Modules.Module.{FileData, IsModuleOf, PackageData, first_name, in_order, package_at, places_in}
use Rattle.go_module.specs.Modules.Packages.{IsTableOf, PackageTable, files_of, imports_of, is_home}
use Rattle.go_module.specs.Modules.Paths.{has_path, homes, own_paths, same_text}
use Rattle.go_load.specs.Packages.Assembly.{IsModuleOrder, cleared, package_with, packages_with, slot_at, taken}
use Rattle.go_module.proofs.MemberLemmas.{contains_head, contains_none, contains_tail}
use Rattle.go_load.proofs.OrderPlaceLemmas.{once_from}
use Rattle.go_load.proofs.PathSetLemmas.{at-any, less_differs, same, same_text-refl}
use Rattle.go_graph.proofs.OrderLemmas.{respects}
use Rattle.go_load.proofs.SlotLemmas.{Once, cleared-other, once-filter, once-range, passes, slot-all, taken-whole}
use Rattle.go_load.proofs.TableLemmas.{imports_graph}

-- what imports name are packages

pub table_graph : (path : List ℕ) (heads : List FileHead) (t : PackageTable) → IsTableOf path heads t → IsGraph t.imports
table_graph path heads t is =
    imports_graph t.paths t.stubs heads (λ p. not (has_path (own_paths path heads) p)) (files_of (homes path (own_paths path heads) heads)) t.imports is.imports

-- a row of imports for each path
pub table_rows : (path : List ℕ) (heads : List FileHead) (t : PackageTable) → IsTableOf path heads t → length t.imports ≡ length t.paths
table_rows path heads t is =
    ap length is.imports
    ∙ length-map t.paths (λ p. imports_of t.paths t.stubs heads (not (has_path (own_paths path heads) p)) (files_of (homes path (own_paths path heads) heads) p))

-- each file stands in one row, and once

record AreApart (rows : List (List ℕ)) : Type 0 where
  once : (k : ℕ) → Once (row_at rows k)
  one : (i k j : ℕ) → Contains (row_at rows i) j → Contains (row_at rows k) j → i ≡ k

in_row : (f : List ℕ → List ℕ) (paths : List (List ℕ)) (k j : ℕ) → Contains (row_at (map f paths) k) j → (p : List ℕ) × (slice_get paths k ≡ Some p) × Contains (f p) j
in_row f [] k j h = absurd (contains_none j h)
in_row f (p ∷ paths) zero j h = (p, refl, h)
in_row f (p ∷ paths) (suc k) j h = in_row f paths k j h

once_row : (f : List ℕ → List ℕ) → ((p : List ℕ) → Once (f p)) → (paths : List (List ℕ)) (k : ℕ) → Once (row_at (map f paths) k)
once_row f once [] k = tt
once_row f once (p ∷ paths) zero = once p
once_row f once (p ∷ paths) (suc k) = once_row f once paths k

one_home : (home : Option (List ℕ)) (p q : List ℕ) → is_home p home ≡ true → is_home q home ≡ true → p ≡ q
one_home None p q a b = absurd (false≢true a)
one_home (Some r) p q a b = same p r a ∙ sym (same q r b)

not_below : (paths : List (List ℕ)) (i k : ℕ) (p : List ℕ) → IsStrictlySortedBy (slice_cmp nat_cmp) paths → slice_get paths i ≡ Some p → slice_get paths k ≡ Some p → i < k → ⊥
not_below paths i k p sorted at_i at_k lt =
    let less = Less-from_sorted (slice_cmp nat_cmp) paths i k [] sorted lt (slice_get_within paths k p at_k) in
    let differs = less_differs (get_or paths i []) (get_or paths k []) less in
    let alike : same_text (get_or paths i []) (get_or paths k []) ≡ same_text p p =
    (λ n. same_text (get_or_from_slice_get paths i p [] at_i n) (get_or_from_slice_get paths k p [] at_k n)) in
    false≢true (sym differs ∙ alike ∙ same_text-refl p)

pub one_place : (paths : List (List ℕ)) (i k : ℕ) (p : List ℕ) → IsStrictlySortedBy (slice_cmp nat_cmp) paths → slice_get paths i ≡ Some p → slice_get paths k ≡ Some p → i ≡ k
one_place paths i k p sorted at_i at_k =
    omega (arith, not_below paths i k p sorted at_i at_k, not_below paths k i p sorted at_k at_i)

files_apart : (homes : List (Option (List ℕ))) (paths : List (List ℕ)) → IsStrictlySortedBy (slice_cmp nat_cmp) paths → AreApart (map (files_of homes) paths)
files_apart homes paths sorted = record {
  once = once_row (files_of homes) (λ p. once-filter (λ i. is_home p (unwrap_or (slice_get homes i) None)) (range_with_len 0 (length homes)) (once-range 0 (length homes))) paths;
  one = λ i k j here there.
      let a = in_row (files_of homes) paths i j here in
      let b = in_row (files_of homes) paths k j there in
      let home_a = passes (λ i. is_home a.0 (unwrap_or (slice_get homes i) None)) (range_with_len 0 (length homes)) j a.2 in
      let home_b = passes (λ i. is_home b.0 (unwrap_or (slice_get homes i) None)) (range_with_len 0 (length homes)) j b.2 in
      let alike : b.0 ≡ a.0 = one_home (unwrap_or (slice_get homes j) None) b.0 a.0 home_b.1 home_a.1 in
      one_place paths i k a.0 sorted a.1 (b.1 ∙ ap (λ (p : List ℕ). Some p) alike);
}

table_apart : (path : List ℕ) (heads : List FileHead) (t : PackageTable) → IsTableOf path heads t → AreApart t.files
table_apart path heads t is = subst AreApart (sym is.files) (files_apart (homes path (own_paths path heads) heads) t.paths is.paths.ascending)

-- the packages

filter_map-alike : (f g : ℕ → Option ℕ) → ((x : ℕ) → f x ≡ g x) → (xs : List ℕ) → filter_map f xs ≡ filter_map g xs
filter_map-alike f g e [] = refl
filter_map-alike f g e (x ∷ xs) = λ i. cons_option (e x i) (filter_map-alike f g e xs i)

module _ (files : List FileData) (heads : List FileHead) (t : PackageTable) (order : List ℕ) (places : List (Option ℕ)) (apart : AreApart t.files) (at : (q : ℕ) → slot_at places q ≡ position (λ p. p == q) order) where
  one_package : (slots : List (Option FileData)) (k : ℕ) → ((j : ℕ) → Contains (row_at t.files k) j → slot_at slots j ≡ slice_get files j) → package_with slots heads t places k ≡ package_at files heads t order k
  one_package slots k here =
      let whole : taken slots (row_at t.files k) ≡ filter_map (slice_get files) (row_at t.files k) = taken-whole files (row_at t.files k) slots (apart.once k) here in
      let imports : filter_map (slot_at places) (row_at t.imports k) ≡ places_in order (row_at t.imports k) = filter_map-alike (slot_at places) (λ q. position (λ p. p == q) order) at (row_at t.imports k) in
      λ i. record {
        path = as_text (row_at t.paths k);
        name = first_name heads (row_at t.files k);
        stub = is_marked t.stubs k;
        files = whole i;
        imports = imports i;
      }

  all_packages : (ks : List ℕ) (slots : List (Option FileData)) → Once ks → ((k : ℕ) → Contains ks k → (j : ℕ) → Contains (row_at t.files k) j → slot_at slots j ≡ slice_get files j) → packages_with slots heads t places ks ≡ map (package_at files heads t order) ks
  all_packages [] slots once here = refl
  all_packages (k ∷ ks) slots once here =
      let row = row_at t.files k in
      let first = one_package slots k (here k (contains_head k ks k refl)) in
      let others = all_packages ks (cleared slots row) once.1 (λ n h j has.
      cleared-other row slots j (λ mine. once.0 (subst (Contains ks) (sym (apart.one k n j mine has)) h)) ∙ here n (contains_tail k ks n h) j has) in
      λ i. first i ∷ others i

-- the order

pub order_once : (t : PackageTable) (list : List ℕ) → IsModuleOrder t list → Once list
order_once t list is = subst Once (sym is.list_is) (once-filter (is_marked t.reached) is.order (once_from is.order (respects t.imports is.order is.is_order).once))

pub order_inside : (path : List ℕ) (heads : List FileHead) (t : PackageTable) (list : List ℕ) (count : ℕ) → IsTableOf path heads t → IsModuleOrder t list → count ≡ length t.paths → All (λ p. p < count) list
order_inside path heads t list count table is same =
    let n : length t.imports ≡ count = table_rows path heads t table ∙ sym same in
    subst (λ (xs : List ℕ). All (λ p. p < count) xs) (sym is.list_is)
    (All-filter (is_marked t.reached) (λ p. p < count) is.order (λ k d lt.
    let within : get_or is.order k 0 < length t.imports = (respects t.imports is.order is.is_order).vertices k lt in
    let inside : get_or is.order k 0 < count = omega (arith, within, n) in
    subst (λ m. m < count) (sym (at-any is.order k d 0 lt)) inside))

-- the module
pub module_made : (path : List ℕ) (files : List FileData) (heads : List FileHead) (t : PackageTable) (list : List ℕ) (places : List (Option ℕ)) (slots : List (Option FileData)) (name : List ℕ) (made : List PackageData)
    → IsTableOf path heads t → IsModuleOrder t list
    → ((q : ℕ) → slot_at places q ≡ position (λ p. p == q) list)
    → slots ≡ map (λ f. Some f) files
    → made ≡ packages_with slots heads t places list
    → name ≡ as_text path
    → IsModuleOf path files heads t (record { path = name; version = 21; packages = made })
module_made path files heads t list places slots name made table is at all each named =
    let start : (k : ℕ) → Contains list k → (j : ℕ) → Contains (row_at t.files k) j → slot_at slots j ≡ slice_get files j =
    λ k h j has. ap (λ (s : List (Option FileData)). slot_at s j) all ∙ slot-all files j in
    let packages : made ≡ map (package_at files heads t (in_order t is.order)) (in_order t is.order) =
    each ∙ all_packages files heads t list places (table_apart path heads t table) at list slots (order_once t list is) start
    ∙ (λ i. map (package_at files heads t (is.list_is i)) (is.list_is i)) in
    record {
      order = is.order;
      is_order = is.is_order;
      module_is = λ i. record { path = named i; version = 21; packages = packages i };
    }
