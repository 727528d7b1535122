-- Heads have one table of packages, one order and one module, and their imports break one list.
use Rattle.std.proofs.Common.{◌≡◌, ℕ, suc, Bool, true, not, List, [], ◌∷◌, ◌++◌, Option, length, map, refl, sym, ap, subst, ◌∙◌, ⊎_elim}
use Rattle.std.specs.Prelude.{◌↔◌}
use Rattle.std.specs.Cmp.{both_ways}
use Rattle.std.specs.List.{Contains}
use Rattle.std.proofs.lemmas.List.Elements.{Contains-append_left, Contains-append_right, Contains-append_cases}
use Rattle.go_base.specs.declared.rule.Broken.{Broken}
use Rattle.go_graph.specs.Graph.{is_marked}
use Rattle.go_graph.proofs.OrderLemmas.{unique}
use Rattle.go_module.specs.Modules.BrokenImports.{AreBrokenPackages, broken_imports_in}
use Rattle.go_module.specs.Modules.Heads.{FileHead}
use Rattle.go_module.specs.Modules.Module.{FileData, IsModuleOf, ModuleData, in_order, module_data}
use Rattle.go_module.specs.Modules.Packages.{IsPathList, IsTableOf, PackageTable, Reached, files_of, imports_of}
use Rattle.go_module.specs.Modules.Paths.{has_path, homes, own_paths}
use Rattle.go_module.specs.Order.{IsListOf}
use Rattle.go_module.proofs.BrokenListLemmas.{one_list}
use Rattle.go_load.proofs.FolderOnceLemmas.{paths_once}

path_list_once : (homes : List (Option (List ℕ))) (a b : List (List ℕ)) → IsPathList homes a → IsPathList homes b → a ≡ b
path_list_once homes a b f g = paths_once a b f.ascending g.ascending (λ p h. (g.same p).1 ((f.same p).0 h)) (λ p h. (f.same p).1 ((g.same p).0 h))

-- as many marks, true at the same places, are the same
marks_once : (a b : List Bool) → length a ≡ length b → ((k : ℕ) → is_marked a k ≡ true → is_marked b k ≡ true) → ((k : ℕ) → is_marked b k ≡ true → is_marked a k ≡ true) → a ≡ b
marks_once [] [] len there back = refl
marks_once [] (y ∷ ys) len there back = absurd (cc len)
marks_once (x ∷ xs) [] len there back = absurd (cc len)
marks_once (x ∷ xs) (y ∷ ys) len there back =
    let first = both_ways x y (there 0) (back 0) in
    let others = marks_once xs ys (cc len) (λ k. there (suc k)) (λ k. back (suc k)) in
    λ i. first i ∷ others i

module _ (path : List ℕ) (heads : List FileHead) where
  -- heads have one table
  pub table_once : (t u : PackageTable) → IsTableOf path heads t → IsTableOf path heads u → t ≡ u
  table_once t u f g =
      let own = own_paths path heads in
      let paths = path_list_once (homes path own heads) t.paths u.paths f.paths g.paths in
      let stubs = f.stubs ∙ ap (map (λ p. not (has_path own p))) paths ∙ sym g.stubs in
      let files = f.files ∙ ap (map (files_of (homes path own heads))) paths ∙ sym g.files in
      let imports : t.imports ≡ u.imports =
      f.imports ∙ (λ i. map (λ p. imports_of (paths i) (stubs i) heads (not (has_path own p)) (files_of (homes path own heads) p)) (paths i)) ∙ sym g.imports in
      let len = f.reached_length ∙ ap length paths ∙ sym g.reached_length in
      let there : (k : ℕ) → Reached t.stubs t.imports k → Reached u.stubs u.imports k = λ k r. subst (λ s. Reached s u.imports k) stubs (subst (λ m. Reached t.stubs m k) imports r) in
      let back : (k : ℕ) → Reached u.stubs u.imports k → Reached t.stubs t.imports k = λ k r. subst (λ s. Reached s t.imports k) (sym stubs) (subst (λ m. Reached u.stubs m k) (sym imports) r) in
      let reached = marks_once t.reached u.reached len (λ k e. (g.reached k).1 (there k ((f.reached k).0 e))) (λ k e. (f.reached k).1 (back k ((g.reached k).0 e))) in
      λ i. record { paths = paths i; stubs = stubs i; files = files i; imports = imports i; reached = reached i }

  -- files, heads and a table make one module
  pub module_once : (files : List FileData) (t : PackageTable) (a b : ModuleData) → IsModuleOf path files heads t a → IsModuleOf path files heads t b → a ≡ b
  module_once files t a b f g =
      let order = unique t.imports f.order g.order f.is_order g.is_order in
      f.module_is ∙ ap (λ (o : List ℕ). module_data path files heads t (in_order t o)) order ∙ sym g.module_is

-- the list of what was found, where some of it is found otherwise
found_so : (front xs ys : List Broken) (list : List Broken) → ((b : Broken) → Contains xs b ↔ Contains ys b) → IsListOf (front ++ xs) list → IsListOf (front ++ ys) list
found_so front xs ys list alike l = record {
  ascending = l.ascending;
  same = λ b. ((λ h. moved xs ys (λ c. (alike c).0) b ((l.same b).0 h)), (λ h. (l.same b).1 (moved ys xs (λ c. (alike c).1) b h)));
}
  where
    moved : (us vs : List Broken) → ((b : Broken) → Contains us b → Contains vs b) → (b : Broken) → Contains (front ++ us) b → Contains (front ++ vs) b
    moved us vs to b h = ⊎_elim
        (λ (here : Contains front b). Contains-append_left front vs b here)
        (λ (there : Contains us b). Contains-append_right front vs b (to b there))
        (Contains-append_cases front us b h)

-- imports and package clauses break one list
pub packages_once : (heads : List FileHead) (t : PackageTable) (a b : List Broken) → AreBrokenPackages heads t a → AreBrokenPackages heads t b → a ≡ b
packages_once heads t a b f g =
    let front = broken_imports_in heads t in
    let alike : (x : Broken) → Contains f.cyclic x ↔ Contains g.cyclic x =
    λ x. ((λ h. (g.are_cyclic x).1 ((f.are_cyclic x).0 h)), (λ h. (f.are_cyclic x).1 ((g.are_cyclic x).0 h))) in
    one_list (front ++ g.cyclic) a b (found_so front f.cyclic g.cyclic a alike f.is_list) g.is_list
