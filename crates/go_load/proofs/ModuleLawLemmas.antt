-- The packages of a module: each behind all that it imports, and no two with one path.
use Rattle.std.proofs.Common.{◌≡◌, ℕ, ◌<◌, ◌==◌, false, List, [], Some, get_or, length, refl, sym, ap, ◌∙◌, subst, arith}
use Rattle.std.specs.Prelude.{position, slice_get}
use Rattle.std.specs.List.{Contains}
use Rattle.std.proofs.lemmas.Option.{get_or_from_slice_get, slice_get-get_or, slice_get_within, unwrap_or-slice_get}
use Rattle.go_mod.specs.Folders.{Folder}
use Rattle.go_module.specs.Modules.Heads.{FileHead}
use Rattle.go_graph.specs.Order.{IsOrder}
use Rattle.go_load.specs.Loading.{IsModule}
use Rattle.go_module.specs.Modules.Module.{FileData, ModuleData, PackageData, files_from, in_order, module_data, package_at, first_number}
use Rattle.go_graph.specs.Graph.{row_at, is_marked}
use Rattle.go_module.specs.Modules.ModuleLaws.{ImportsStandBefore}
use Rattle.go_mod.specs.ModuleLines.{lines_of, outside_blocks}
use Rattle.go_mod.specs.ModuleRules.{module_file_path}
use Rattle.go_module.specs.Modules.Packages.{IsTableOf, PackageTable}
use Rattle.go_module.specs.Modules.Paths.{own_paths}
use Rattle.go_mod.proofs.AsciiLemmas.{Ascii}
use Rattle.go_load.proofs.AssemblyLemmas.{one_place, order_once, table_rows}
use Rattle.go_load.proofs.FrontLemmas.{front_is, one_place_of, result_at, result_from, stands_before}
use Rattle.go_module.proofs.MemberLemmas.{contains_head}
use Rattle.go_load.proofs.PlainPathLemmas.{all_plain, ascii_text, homes_ascii, lines_ascii}
use Rattle.go_graph.proofs.OrderLemmas.{respects}

-- what stands at a place stands in the list
has_at : (xs : List (List ℕ)) (k : ℕ) (x : List ℕ) → slice_get xs k ≡ Some x → Contains xs x
has_at xs k x e = (k, slice_get_within xs k x e, get_or_from_slice_get xs k x x e)

module _ (path : List ℕ) (files : List FileData) (heads : List FileHead) (t : PackageTable) (order : List ℕ) (is : IsOrder t.imports order) where
  -- what a package imports stands before it
  imports_before : (k : ℕ) (p : PackageData) → slice_get (module_data path files heads t (in_order t order)).packages k ≡ Some p → (i : ℕ) → Contains p.imports i → i < k
  imports_before k p at i has =
      let list = in_order t order in
      let n = result_at (package_at files heads t list) list k p at in
      let mine : Contains (package_at files heads t list n.0).imports i = subst (λ (q : PackageData). Contains q.imports i) (sym n.2) has in
      let q = result_from (λ q. position (λ p. p == q) list) (row_at t.imports n.0) i mine in
      let f = front_is (is_marked t.reached) order k n.0 n.1 in
      let lt = slice_get_within order f.place n.0 f.at in
      let here : get_or order f.place 0 ≡ n.0 = get_or_from_slice_get order f.place n.0 0 f.at in
      let row : row_at t.imports n.0 ≡ row_at t.imports (get_or order f.place 0) = ap (λ m. row_at t.imports m) (sym here) in
      let front = (respects t.imports order is).behind f.place lt q.0 (subst (λ (xs : List ℕ). Contains xs q.0) row q.1) in
      stands_before (is_marked t.reached) order k n.0 q.0 i f front q.2

  -- a package of the order has a path in the table
  path_at : IsTableOf path heads t → (k n : ℕ) → slice_get (in_order t order) k ≡ Some n → slice_get t.paths n ≡ Some (row_at t.paths n)
  path_at table k n at =
      let f = front_is (is_marked t.reached) order k n at in
      let lt = slice_get_within order f.place n f.at in
      let here : get_or order f.place 0 ≡ n = get_or_from_slice_get order f.place n 0 f.at in
      let within = (respects t.imports order is).vertices f.place lt in
      let inside : n < length t.paths = omega (arith, within, here, table_rows path heads t table) in
      slice_get-get_or t.paths n [] inside ∙ ap (λ (p : List ℕ). Some p) (sym (unwrap_or-slice_get t.paths n []))

  -- one path, one package
  one_path : IsTableOf path heads t → ((p : List ℕ) → Contains t.paths p → Ascii p) → (j k : ℕ) (p q : PackageData) → slice_get (module_data path files heads t (in_order t order)).packages j ≡ Some p → slice_get (module_data path files heads t (in_order t order)).packages k ≡ Some q → p.path ≡ q.path → j ≡ k
  one_path table plain j k p q at_j at_k same =
      let list = in_order t order in
      let a = result_at (package_at files heads t list) list j p at_j in
      let b = result_at (package_at files heads t list) list k q at_k in
      let path_a = path_at table j a.0 a.1 in
      let path_b = path_at table k b.0 b.1 in
      let text_a = ascii_text (row_at t.paths a.0) (plain (row_at t.paths a.0) (has_at t.paths a.0 (row_at t.paths a.0) path_a)) in
      let text_b = ascii_text (row_at t.paths b.0) (plain (row_at t.paths b.0) (has_at t.paths b.0 (row_at t.paths b.0) path_b)) in
      let alike : row_at t.paths b.0 ≡ row_at t.paths a.0 =
      sym text_b ∙ ap (λ (d : PackageData). d.path) b.2 ∙ sym same ∙ sym (ap (λ (d : PackageData). d.path) a.2) ∙ text_a in
      let numbers : a.0 ≡ b.0 = one_place t.paths a.0 b.0 (row_at t.paths a.0) table.paths.ascending path_a (path_b ∙ ap (λ (d : List ℕ). Some d) alike) in
      one_place_of list j k b.0 (order_once t list (record { order = order; is_order = is; list_is = refl })) (subst (λ n. slice_get list j ≡ Some n) numbers a.1) b.1

pub stand_before : (own stubs : Folder) (m : ModuleData) → IsModule own stubs m → ImportsStandBefore m
stand_before own stubs m whole =
    let is = whole.loaded in
    let made = is.is_module in
    let files = files_from 0 is.texts is.trees in
    let line : Ascii is.path = lines_ascii (outside_blocks false (lines_of (own.bytes module_file_path))) is.path
    (subst (λ (paths : List (List ℕ)). Contains paths is.path) (sym whole.read.path_is) (contains_head is.path [] is.path refl)) in
    let heads = all_plain 0 first_number whole.sound.0 is.texts is.trees is.heads [] is.parts.are_heads whole.sound.1 refl in
    let table = is.parts.is_table in
    let plain : (p : List ℕ) → Contains is.table.paths p → Ascii p =
    λ p h. homes_ascii is.path (own_paths is.path is.heads) is.heads p line heads ((table.paths.same p).0 h) in
    subst ImportsStandBefore (sym made.module_is) (record {
      before = imports_before is.path files is.heads is.table made.order made.is_order;
      once = one_path is.path files is.heads is.table made.order made.is_order table plain;
    })
