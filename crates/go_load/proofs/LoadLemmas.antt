-- Lemmas on what is made of what was read, and on what is loaded.
use Rattle.std.proofs.Common.{◌≡◌, ℕ, List, [], ◌∷◌, Option, Ok, Err, Result, IfOk, IfErr, map, refl, sym, ap, subst, ◌∙◌}
use Rattle.go_base.specs.declared.rule.Broken.{Broken as BrokenRule}
use Rattle.go_base.specs.declared.tree.MemFile.{MemFile}
use Rattle.go_tree.specs.declared.node.File.{File}
use Rattle.go_module.specs.declared.places.Placed.{Placed}
use Rattle.go_module.specs.Modules.BrokenImports.{AreBrokenPackages}
use Rattle.go_mod.specs.Folders.{Folder}
use Rattle.go_module.specs.Modules.Texts.{SourceText}
use Rattle.go_module.specs.Modules.Heads.{FileHead}
use Rattle.go_load.specs.Loading.{IsFirstList, IsReadFrom, LoadsModule, TextsBreak, of_module_file, of_texts, of_packages}
use Rattle.go_module.specs.Places.{placed_among}
use Rattle.go_module.specs.Modules.Module.{AreHeads, AreParts, ModuleData}
use Rattle.go_module.specs.Modules.Packages.{PackageTable, IsTableOf}
use Rattle.go_load.specs.declared.load_fault.LoadFault.{LoadFault}
use Rattle.go_load.specs.declared.load_fault.LoadFault.TheVariants.{Broken, ReadFault, NoMemory}
use Rattle.go_load.specs.Packages.Made.{IsMade, IsMadeFault, MadeBreaks, by_texts, by_packages, IsLoadFault}
use Rattle.go_load.specs.Texts.Reading.{ReadsModule, ReadsBroken}
use Rattle.go_load.specs.Packages.Trees.{AreWhole, IsTextsFault, trees_in}

-- what texts break by themselves
pub texts_fault : (path : List ℕ) (texts : List SourceText) (fault : LoadFault) → IsTextsFault texts fault → IsMadeFault path texts fault
texts_fault path texts (Broken list) is = (is.0, by_texts is.1)
texts_fault path texts ReadFault is = absurd is
texts_fault path texts NoMemory is = tt

module _ (path : List ℕ) (texts : List SourceText) (files : List File) (next : ℕ) (heads : List FileHead) (t : PackageTable) (whole : AreWhole texts files next) (are_heads : AreHeads texts (trees_in files) heads) (is_table : IsTableOf path heads t) where
  parts : AreParts path texts (trees_in files) heads t
  parts = record { are_trees = whole.are_trees; are_heads = are_heads; is_table = is_table }

  -- what they break by their imports and package clauses
  pub packages_fault : (sound : TextsBreak texts []) (broken : List BrokenRule) (placed : List Placed) → AreBrokenPackages heads t broken → (broken ≡ [] → ⊥) → placed ≡ map (placed_among texts) broken → (placed ≡ [] → ⊥) × MadeBreaks path texts placed
  packages_fault sound broken placed are some is = (
    λ none. some (no_placed broken (sym is ∙ none)),
    by_packages (trees_in files) heads t sound parts (record { broken = broken; are_broken = are; placed = is }),
  )
    where
      no_placed : (list : List BrokenRule) → map (placed_among texts) list ≡ [] → list ≡ []
      no_placed [] e = refl
      no_placed (b ∷ bs) e = cc

-- the same, of texts, files, heads and lists that are equal
pub packages_told : (path path1 : List ℕ) (texts texts1 texts2 texts3 : List SourceText) (files files1 : List File) (next : ℕ) (heads heads1 heads2 : List FileHead) (t : PackageTable) (broken broken1 broken2 : List BrokenRule) (placed : List Placed) →
    path1 ≡ path → texts1 ≡ texts → texts2 ≡ texts → texts3 ≡ texts → files1 ≡ files → heads1 ≡ heads → heads2 ≡ heads → broken1 ≡ broken → broken2 ≡ broken →
    TextsBreak texts1 [] → AreWhole texts1 files next → AreHeads texts2 (trees_in files1) heads → IsTableOf path1 heads1 t → AreBrokenPackages heads2 t broken → (broken1 ≡ [] → ⊥) → placed ≡ map (placed_among texts3) broken2 →
    (placed ≡ [] → ⊥) × MadeBreaks path texts placed
packages_told path path1 texts texts1 texts2 texts3 files files1 next heads heads1 heads2 t broken broken1 broken2 placed p x1 x2 x3 f h1 h2 b1 b2 sound whole are table list some is =
    let sound' = subst (λ xs. TextsBreak xs []) x1 sound in
    let whole' = subst (λ xs. AreWhole xs files next) x1 whole in
    let are' = subst (λ xs. AreHeads xs (trees_in files) heads) x2 (subst (λ fs. AreHeads texts2 (trees_in fs) heads) f are) in
    let table' = subst (λ q. IsTableOf q heads t) p (subst (λ hs. IsTableOf path1 hs t) h1 table) in
    let list' = subst (λ hs. AreBrokenPackages hs t broken) h2 list in
    let placed' : placed ≡ map (placed_among texts) broken = is ∙ ap (λ xs. map (placed_among xs) broken2) x3 ∙ ap (map (placed_among texts)) b2 in
    packages_fault path texts files next heads t whole' are' table' sound' broken placed list' (λ none. some (b1 ∙ none)) placed'

module _ (told : Option (List MemFile)) (root : List ℕ) (stubs_root : Option (List ℕ)) where
  -- the module of what was read
  pub loads_module : (path : List ℕ) (texts : List SourceText) (m : ModuleData) → ReadsModule told root stubs_root path texts → IsMade path texts m → LoadsModule told root stubs_root m
  loads_module path texts m read made =
      record {
        own = read.own;
        stubs = read.stubs;
        below = read.below;
        is_module = record {
          loaded = record { path = path; texts = texts; trees = made.trees; heads = made.heads; table = made.table; parts = made.parts; sound = made.whole; is_module = made.is_module };
          read = read.is_read;
          sound = made.sound;
        };
      }

  first_list : (own stubs : Folder) (path : List ℕ) (texts : List SourceText) (list : List Placed) → IsReadFrom own stubs path texts → (list ≡ [] → ⊥) → MadeBreaks path texts list → IsFirstList own stubs list
  first_list own stubs path texts list read some (by_texts breaks) = of_texts path texts read some breaks
  first_list own stubs path texts list read some (by_packages trees heads t sound are breaks) = of_packages path texts trees heads t read sound are some breaks

  -- what it breaks
  pub made_fault : (path : List ℕ) (texts : List SourceText) (fault : LoadFault) → ReadsModule told root stubs_root path texts → IsMadeFault path texts fault → IsLoadFault told root stubs_root fault
  made_fault path texts (Broken list) read breaks =
      record { own = read.own; stubs = read.stubs; below = read.below; is_first = first_list read.own read.stubs path texts list.items read.is_read breaks.0 breaks.1 }
  made_fault path texts ReadFault read breaks = tt
  made_fault path texts NoMemory read breaks = tt

  -- what go.mod breaks
  pub read_fault : (fault : LoadFault) → ReadsBroken told root stubs_root fault → IsLoadFault told root stubs_root fault
  read_fault (Broken list) is =
      record { own = is.own; stubs = is.stubs; below = is.below; is_first = of_module_file is.broken.0 is.broken.1 }
  read_fault ReadFault is = tt
  read_fault NoMemory is = tt

-- what follows from an answer in each case
pub ok_cases : {T E : Type 0} (P Q : T → Type 0) (r : Result T E) → ((x : T) → P x → Q x) → IfOk r P → IfOk r Q
ok_cases P Q (Ok x) f h = f x h
ok_cases P Q (Err e) f h = tt

pub err_cases : {T E : Type 0} (P Q : E → Type 0) (r : Result T E) → ((e : E) → P e → Q e) → IfErr r P → IfErr r Q
err_cases P Q (Ok x) f h = tt
err_cases P Q (Err e) f h = f e h
