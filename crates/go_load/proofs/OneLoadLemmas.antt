-- What is loaded from two folders: one module or one list of broken rules, and not both.
use Rattle.std.proofs.Common.{◌≡◌, ℕ, List, [], Option, Some, map, refl, sym, ap, subst, ◌∙◌}
use Rattle.go_base.specs.declared.rule.Broken.{Broken}
use Rattle.go_base.specs.declared.tree.MemFile.{MemFile}
use Rattle.go_tree.specs.Tree.{Tree}
use Rattle.go_mod.specs.Folders.{Folder}
use Rattle.go_mod.specs.ModuleRules.{broken_module_file}
use Rattle.go_module.specs.declared.places.Placed.{Placed}
use Rattle.go_module.specs.Modules.Heads.{FileHead}
use Rattle.go_module.specs.Modules.Module.{AreHeads, AreParts, IsModuleOf, ModuleData, files_from, first_number}
use Rattle.go_module.specs.Modules.Packages.{IsTableOf, PackageTable}
use Rattle.go_module.specs.Modules.Texts.{SourceText}
use Rattle.go_module.specs.Order.{IsListOf}
use Rattle.go_module.specs.Places.{placed_among, placed_in}
use Rattle.go_module.proofs.BrokenListLemmas.{none_of_none, one_list}
use Rattle.go_load.specs.Loading.{AreBelow, IsFirstList, IsModule, IsReadFrom, ModuleFileBreaks, PackagesBreak, TextsBreak, module_text, of_module_file, of_packages, of_texts}
use Rattle.go_load.specs.OneLoad.{OneLoad}
use Rattle.go_load.proofs.FolderOnceLemmas.{own_once, path_once, read_once, stubs_once}
use Rattle.go_load.proofs.HeadOnceLemmas.{heads_once, trees_once}
use Rattle.go_load.proofs.SourceOnceLemmas.{breaks_once}
use Rattle.go_load.proofs.TableOnceLemmas.{module_once, packages_once, table_once}

-- the path of a module, its texts, and their trees, heads and packages
record Parts : Type 0 where
  path : List ℕ
  texts : List SourceText
  trees : List Tree
  heads : List FileHead
  table : PackageTable

module _ (own stubs : Folder) where
  -- the parts of what is read of the folders, where no text breaks a rule by itself
  record ArePartsRead (p : Parts) : Type 0 where
    read : IsReadFrom own stubs p.path p.texts
    sound : TextsBreak p.texts []
    parts : AreParts p.path p.texts p.trees p.heads p.table

  parts_once : (p q : Parts) → ArePartsRead p → ArePartsRead q → p ≡ q
  parts_once p q f g =
      let path = path_once own stubs p.path q.path p.texts q.texts f.read g.read in
      let texts = read_once own stubs p.path q.path p.texts q.texts f.read g.read in
      let all = subst (λ (x : List ℕ). AreParts x q.texts p.trees p.heads p.table) path (subst (λ (xs : List SourceText). AreParts p.path xs p.trees p.heads p.table) texts f.parts) in
      let trees = trees_once first_number q.texts p.trees q.trees all.are_trees g.parts.are_trees in
      let heads = heads_once q.texts q.trees p.heads q.heads (subst (λ (ts : List Tree). AreHeads q.texts ts p.heads) trees all.are_heads) g.parts.are_heads in
      let table = table_once q.path q.heads p.table q.table (subst (λ (hs : List FileHead). IsTableOf q.path hs p.table) heads all.is_table) g.parts.is_table in
      λ i. record { path = path i; texts = texts i; trees = trees i; heads = heads i; table = table i }

  -- what is loaded, and the parts it is made of
  abbrev parts_of : (m : ModuleData) → IsModule own stubs m → Parts
  parts_of m is = record { path = is.loaded.path; texts = is.loaded.texts; trees = is.loaded.trees; heads = is.loaded.heads; table = is.loaded.table }

  are_parts : (m : ModuleData) (is : IsModule own stubs m) → ArePartsRead (parts_of m is)
  are_parts m is = record { read = is.read; sound = is.sound; parts = is.loaded.parts }

  one_module : (a b : ModuleData) → IsModule own stubs a → IsModule own stubs b → a ≡ b
  one_module a b f g =
      let same = parts_once (parts_of a f) (parts_of b g) (are_parts a f) (are_parts b g) in
      let moved = subst (λ (p : Parts). IsModuleOf p.path (files_from 0 p.texts p.trees) p.heads p.table a) same f.loaded.is_module in
      module_once g.loaded.path g.loaded.heads (files_from 0 g.loaded.texts g.loaded.trees) g.loaded.table a b moved g.loaded.is_module

  -- go.mod breaks one list, and none where the module is read
  module_file_once : (a b : List Placed) → ModuleFileBreaks own a → ModuleFileBreaks own b → a ≡ b
  module_file_once a b f g =
      f.placed ∙ ap (map (placed_in (module_text own))) (one_list (broken_module_file own) f.broken g.broken f.is_list g.is_list) ∙ sym g.placed

  module_file_read : (path : List ℕ) (texts : List SourceText) (list : List Placed) → IsReadFrom own stubs path texts → ModuleFileBreaks own list → list ≡ []
  module_file_read path texts list read f =
      f.placed ∙ ap (map (placed_in (module_text own))) (none_of_none f.broken (subst (λ (found : List Broken). IsListOf found f.broken) read.good f.is_list))

  -- what texts break by themselves is one list
  texts_break : (p q : List ℕ) (xs ys : List SourceText) (a b : List Placed) → IsReadFrom own stubs p xs → IsReadFrom own stubs q ys → TextsBreak xs a → TextsBreak ys b → a ≡ b
  texts_break p q xs ys a b f g breaks other =
      breaks_once ys a b (subst (λ (texts : List SourceText). TextsBreak texts a) (read_once own stubs p q xs ys f g) breaks) other

  -- so is what packages break
  packages_break : (p q : Parts) (a b : List Placed) → ArePartsRead p → ArePartsRead q → PackagesBreak p.texts p.heads p.table a → PackagesBreak q.texts q.heads q.table b → a ≡ b
  packages_break p q a b f g breaks other =
      let moved = subst (λ (x : Parts). PackagesBreak x.texts x.heads x.table a) (parts_once p q f g) breaks in
      moved.placed ∙ ap (map (placed_among q.texts)) (packages_once q.heads q.table moved.broken other.broken moved.are_broken other.are_broken) ∙ sym other.placed

  one_list_told : (a b : List Placed) → IsFirstList own stubs a → IsFirstList own stubs b → a ≡ b
  one_list_told a b (of_module_file x f) (of_module_file y g) = module_file_once a b f g
  one_list_told a b (of_module_file x f) (of_texts q ys read y g) = absurd (x (module_file_read q ys a read f))
  one_list_told a b (of_module_file x f) (of_packages q ys us hs u read sound parts y g) = absurd (x (module_file_read q ys a read f))
  one_list_told a b (of_texts p xs read x f) (of_module_file y g) = absurd (y (module_file_read p xs b read g))
  one_list_told a b (of_texts p xs read x f) (of_texts q ys other y g) = texts_break p q xs ys a b read other f g
  one_list_told a b (of_texts p xs read x f) (of_packages q ys us hs u other sound parts y g) = absurd (x (texts_break p q xs ys a [] read other f sound))
  one_list_told a b (of_packages p xs ts ks t read sound parts x f) (of_module_file y g) = absurd (y (module_file_read p xs b read g))
  one_list_told a b (of_packages p xs ts ks t read sound parts x f) (of_texts q ys other y g) = absurd (y (texts_break q p ys xs b [] other read g sound))
  one_list_told a b (of_packages p xs ts ks t read sound parts x f) (of_packages q ys us hs u other whole those y g) =
      packages_break (record { path = p; texts = xs; trees = ts; heads = ks; table = t }) (record { path = q; texts = ys; trees = us; heads = hs; table = u }) a b
      (record { read = read; sound = sound; parts = parts }) (record { read = other; sound = whole; parts = those }) f g

  never_both : (m : ModuleData) (list : List Placed) → IsModule own stubs m → IsFirstList own stubs list → ⊥
  never_both m list is (of_module_file some f) = some (module_file_read is.loaded.path is.loaded.texts list is.read f)
  never_both m list is (of_texts p xs read some f) = some (texts_break p is.loaded.path xs is.loaded.texts list [] read is.read f is.sound)
  never_both m list is (of_packages p xs ts ks t read sound parts some f) =
      let none : PackagesBreak is.loaded.texts is.loaded.heads is.loaded.table [] = record { broken = []; are_broken = is.loaded.sound; placed = refl } in
      some (packages_break (record { path = p; texts = xs; trees = ts; heads = ks; table = t }) (parts_of m is) list [] (record { read = read; sound = sound; parts = parts }) (are_parts m is) f none)

-- one load from two roots of a tree that tells its files
module _ (files : List MemFile) (root : List ℕ) (stubs_root : Option (List ℕ)) where
  -- what holds of two folders below the roots holds of any two
  at_folders : (P : Folder → Folder → Type 0) (own other : Folder) (stubs others : Folder) → AreBelow (Some files) root stubs_root own stubs → AreBelow (Some files) root stubs_root other others → P own stubs → P other others
  at_folders P own other stubs others f g p =
      subst (λ (o : Folder). P o others) (own_once files root own other f.own_is g.own_is) (subst (P own) (stubs_once files stubs_root stubs others f.stubs_are g.stubs_are) p)

  pub one_load : OneLoad (Some files) root stubs_root
  one_load = record {
    one_module = λ a b f g. one_module g.own g.stubs a b (at_folders (λ own stubs. IsModule own stubs a) f.own g.own f.stubs g.stubs f.below g.below f.is_module) g.is_module;
    one_list = λ a b f g. one_list_told g.own g.stubs a b (at_folders (λ own stubs. IsFirstList own stubs a) f.own g.own f.stubs g.stubs f.below g.below f.is_first) g.is_first;
    not_both = λ m list f g. never_both g.own g.stubs m list (at_folders (λ own stubs. IsModule own stubs m) f.own g.own f.stubs g.stubs f.below g.below f.is_module) g.is_first;
  }
