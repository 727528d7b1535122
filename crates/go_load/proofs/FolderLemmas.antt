-- The folders that were read, whether the tree tells its files or not.
use Rattle.std.specs.Prelude.{if◌then◌else◌}
use Rattle.std.proofs.Common.{◌≡◌, ℕ, Bool, true, false, not, ◌&&◌, ◌||◌, List, [], ◌∷◌, ◌++◌, Option, None, Some, length, map, refl, sym, ap, ◌∙◌, subst, codes, nat_eq, nat_lt, unwrap_or, Less}
use Rattle.std.specs.Cmp.Lexicographic.{pointwise, slice_cmp, texts_ties}
use Rattle.std.specs.Ordering.{is_eq, nat_cmp}
use Rattle.std.specs.List.{AllByRecursion, Contains}
use Rattle.std.specs.List.Sorted.{IsPermutation, IsStrictlySortedBy}
use Rattle.std.proofs.lemmas.List.Elements.{recursion_from_All}
use Rattle.std.proofs.lemmas.List.Sorted.{Contains-permutation, IsPermutation-sym, list_any-IsPermutation}
use Rattle.std.proofs.lemmas.Map.Keys.{sorted_head, sorted_tail}
use Rattle.std.proofs.lemmas.Slice.Eq.{bytes_eq-Decides}
use Rattle.go_base.specs.declared.tree.MemFile.{MemFile}
use Rattle.go_base.specs.Tree.{paths_of}
use Rattle.go_module.specs.Broken.{broken_at}
use Rattle.go_mod.specs.Folders.{Folder, AreGoFiles, IsBelow, folder_of, texts_at}
use Rattle.go_module.specs.Modules.Texts.{SourceText}
use Rattle.go_mod.specs.Listing.{counts, is_go_name, is_left_out, is_skipped_name}
use Rattle.go_mod.specs.ModuleRules.{broken_module_file, broken_rules, has_module_file, missing_module_file, module_file_path, module_lines}
use Rattle.go_module.specs.Modules.PathParts.{folders, last_element}
use Rattle.go_mod.proofs.ListingLemmas.{list_any-agree}
use Rattle.go_module.proofs.MemberLemmas.{contains_head, contains_tail}
use Rattle.go_load.specs.Texts.Calls.{IsListed, IsReadAt}
use Rattle.go_load.specs.Texts.ModuleTexts.{IsModuleRead, IsPathIn, is_listed, rules_of}
use Rattle.go_load.specs.Texts.ReadTexts.{AreGoFilesOf, AreTextsRead, IsTextRead}

-- the bytes that were read at a path
abbrev pub read_at : List SourceText → List ℕ → List ℕ
read_at [] path = []
read_at (text ∷ texts) path = if pointwise nat_eq text.path path then text.bytes else read_at texts path

abbrev pub bytes_with : Option (List ℕ) → List SourceText → List ℕ → List ℕ
bytes_with read texts path = if pointwise nat_eq module_file_path path then unwrap_or read [] else read_at texts path

-- the folder: that of the tree, or one of what was read
abbrev pub folder_read : Option (List MemFile) → List ℕ → List (List ℕ) → Option (List ℕ) → List SourceText → Folder
folder_read None root names read texts = record { paths = names; bytes = bytes_with read texts }
folder_read (Some all) root names read texts = folder_of all root

pub folder_is : (told : Option (List MemFile)) (root : List ℕ) (names : List (List ℕ)) (read : Option (List ℕ)) (texts : List SourceText) → IsBelow told root (folder_read told root names read texts)
folder_is None root names read texts = tt
folder_is (Some all) root names read texts = refl

-- go.mod

listed_is : (told : Option (List MemFile)) (root : List ℕ) (names : List (List ℕ)) (read : Option (List ℕ)) (texts : List SourceText) → IsListed told root names → has_module_file (folder_read told root names read texts) ≡ is_listed names
listed_is None root names read texts listed = refl
listed_is (Some all) root names read texts listed = sym (list_any-IsPermutation (pointwise nat_eq module_file_path) names (paths_of all root) listed)

pub module_bytes : (told : Option (List MemFile)) (root : List ℕ) (names : List (List ℕ)) (bytes : List ℕ) (texts : List SourceText) → IsReadAt told root module_file_path bytes → (folder_read told root names (Some bytes) texts).bytes module_file_path ≡ bytes
module_bytes None root names bytes texts is = refl
module_bytes (Some all) root names bytes texts is = sym is

pub broken_is : (told : Option (List MemFile)) (root : List ℕ) (names : List (List ℕ)) (read : Option (List ℕ)) (texts : List SourceText) → IsListed told root names → IsModuleRead told root names read → broken_module_file (folder_read told root names read texts) ≡ rules_of read
broken_is told root names None texts listed none =
    ap (λ b. if b then broken_rules ((folder_read told root names None texts).bytes module_file_path) else broken_at 0 0 missing_module_file ∷ []) (listed_is told root names None texts listed ∙ none)
broken_is told root names (Some bytes) texts listed is =
    ap (λ b. if b then broken_rules ((folder_read told root names (Some bytes) texts).bytes module_file_path) else broken_at 0 0 missing_module_file ∷ []) (listed_is told root names (Some bytes) texts listed ∙ is.0)
    ∙ ap broken_rules (module_bytes told root names bytes texts is.1)

pub path_read : (told : Option (List MemFile)) (root : List ℕ) (names : List (List ℕ)) (read : Option (List ℕ)) (texts : List SourceText) (path : List ℕ) → IsListed told root names → IsModuleRead told root names read → IsPathIn read path → (broken_module_file (folder_read told root names read texts) ≡ []) × (map (λ line. line.text) (module_lines ((folder_read told root names read texts).bytes module_file_path)) ≡ path ∷ [])
path_read told root names None texts path listed is p = absurd p
path_read told root names (Some bytes) texts path listed is p = (
  broken_is told root names (Some bytes) texts listed is ∙ p.0,
  ap (λ (b : List ℕ). map (λ line. line.text) (module_lines b)) (module_bytes told root names bytes texts is.1) ∙ p.1,
)

-- the Go files

left_out_moved : (names paths : List (List ℕ)) → IsPermutation names paths → (folder : List ℕ) → is_left_out names folder ≡ is_left_out paths folder
left_out_moved names paths moved folder =
    ap (λ b. is_skipped_name (last_element folder) || (nat_lt 0 (length folder) && b)) (list_any-IsPermutation (pointwise nat_eq (folder ++ codes "/go.mod")) names paths moved)

counts_moved : (names paths : List (List ℕ)) → IsPermutation names paths → (path : List ℕ) → counts names path ≡ counts paths path
counts_moved names paths moved path =
    ap (λ b. is_go_name (last_element path) && not b) (list_any-agree (is_left_out names) (is_left_out paths) (left_out_moved names paths moved) (folders path))

files_moved : (names all paths : List (List ℕ)) (bytes : List ℕ → List ℕ) → IsPermutation names all → AreGoFilesOf names paths → AreGoFiles (record { paths = all; bytes = bytes }) paths
files_moved names all paths bytes moved are =
    let a = are bytes in
    record {
      ascending = a.ascending;
      same = λ path. (
        (λ h. (Contains-permutation names all path moved ((a.same path).0 h).0, sym (counts_moved names all moved path) ∙ ((a.same path).0 h).1)),
        (λ h. (a.same path).1 (Contains-permutation all names path (IsPermutation-sym names all moved) h.0, counts_moved names all moved path ∙ h.1)),
      );
    }

pub files_are : (told : Option (List MemFile)) (root : List ℕ) (names : List (List ℕ)) (read : Option (List ℕ)) (texts : List SourceText) (paths : List (List ℕ)) → IsListed told root names → AreGoFilesOf names paths → AreGoFiles (folder_read told root names read texts) paths
files_are None root names read texts paths listed are = are (bytes_with read texts)
files_are (Some all) root names read texts paths listed are = files_moved names (paths_of all root) paths (folder_of all root).bytes listed are

no_go_file : (names : List (List ℕ)) → counts names module_file_path ≡ false
no_go_file names = refl

-- go.mod is none of them
pub no_module_file : (names paths : List (List ℕ)) → AreGoFilesOf names paths → Contains paths module_file_path → ⊥
no_module_file names paths are h =
    let passes : counts names module_file_path ≡ true = (((are (λ path. [])).same module_file_path).0 h).1 in
    let fails : counts names module_file_path ≡ false = no_go_file names in
    absurd (cc (passes, fails))

-- their texts

same_path : (a b : List ℕ) → a ≡ b → pointwise nat_eq a b ≡ true
same_path a b e = (bytes_eq-Decides a b).1 e

other_path : (a b : List ℕ) → (a ≡ b → ⊥) → (r : Bool) → pointwise nat_eq a b ≡ r → r ≡ false
other_path a b other true e = absurd (other ((bytes_eq-Decides a b).0 e))
other_path a b other false e = refl

same_text : (t : SourceText) (stub : Bool) (bytes : List ℕ) → t.stub ≡ stub → t.bytes ≡ bytes → t ≡ record { stub = stub; path = t.path; bytes = bytes }
same_text t stub bytes s b = λ i. record { stub = s i; path = t.path; bytes = b i }

as_map : (stub : Bool) (folder : Folder) (texts : List SourceText) → AllByRecursion (λ t. t.stub ≡ stub) texts → AllByRecursion (λ t. t.bytes ≡ folder.bytes t.path) texts → texts ≡ texts_at stub folder (map (λ t. t.path) texts)
as_map stub folder [] s b = refl
as_map stub folder (t ∷ ts) s b =
    ap (λ (x : SourceText). x ∷ ts) (same_text t stub (folder.bytes t.path) s.0 b.0)
    ∙ ap (λ (xs : List SourceText). record { stub = stub; path = t.path; bytes = folder.bytes t.path } ∷ xs) (as_map stub folder ts s.1 b.1)

skip_all : (t : SourceText) (ts us : List SourceText) → AllByRecursion (λ (y : List ℕ). slice_cmp nat_cmp t.path y ≡ Less) (map (λ u. u.path) us) → AllByRecursion (λ u. u.bytes ≡ read_at ts u.path) us → AllByRecursion (λ u. u.bytes ≡ read_at (t ∷ ts) u.path) us
skip_all t ts [] less found = tt
skip_all t ts (u ∷ us) less found =
    let other : pointwise nat_eq t.path u.path ≡ false = texts_ties t.path u.path ∙ ap is_eq less.0 in
    (found.0 ∙ sym (ap (λ b. if b then t.bytes else read_at ts u.path) other), skip_all t ts us less.1 found.1)

-- each of them is found by its path
found_all : (texts : List SourceText) → IsStrictlySortedBy (slice_cmp nat_cmp) (map (λ t. t.path) texts) → AllByRecursion (λ t. t.bytes ≡ read_at texts t.path) texts
found_all [] sorted = tt
found_all (t ∷ ts) sorted = (
  sym (ap (λ b. if b then t.bytes else read_at ts t.path) (same_path t.path t.path refl)),
  skip_all t ts ts (sorted_head (slice_cmp nat_cmp) t.path (map (λ u. u.path) ts) sorted) (found_all ts (sorted_tail (slice_cmp nat_cmp) t.path (map (λ u. u.path) ts) sorted)),
)

behind_module : (read : Option (List ℕ)) (texts us : List SourceText) → (Contains (map (λ u. u.path) us) module_file_path → ⊥) → AllByRecursion (λ u. u.bytes ≡ read_at texts u.path) us → AllByRecursion (λ u. u.bytes ≡ bytes_with read texts u.path) us
behind_module read texts [] none found = tt
behind_module read texts (u ∷ us) none found =
    let other : pointwise nat_eq module_file_path u.path ≡ false =
    other_path module_file_path u.path (λ e. none (contains_head u.path (map (λ u. u.path) us) module_file_path (sym e))) _ refl in (
      found.0 ∙ sym (ap (λ b. if b then unwrap_or read [] else read_at texts u.path) other),
      behind_module read texts us (λ h. none (contains_tail u.path (map (λ u. u.path) us) module_file_path h)) found.1,
    )

told_bytes : (files : List MemFile) (root : List ℕ) (stub : Bool) (ts : List SourceText) → AllByRecursion (IsTextRead (Some files) root stub) ts → AllByRecursion (λ t. t.bytes ≡ (folder_of files root).bytes t.path) ts
told_bytes files root stub [] are = tt
told_bytes files root stub (t ∷ ts) are = (are.0.bytes_are, told_bytes files root stub ts are.1)

bytes_are : (told : Option (List MemFile)) (root : List ℕ) (names : List (List ℕ)) (read : Option (List ℕ)) (stub : Bool) (texts : List SourceText) → IsStrictlySortedBy (slice_cmp nat_cmp) (map (λ t. t.path) texts) → (Contains (map (λ t. t.path) texts) module_file_path → ⊥) → AllByRecursion (IsTextRead told root stub) texts → AllByRecursion (λ t. t.bytes ≡ (folder_read told root names read texts).bytes t.path) texts
bytes_are None root names read stub texts sorted none are = behind_module read texts texts none (found_all texts sorted)
bytes_are (Some files) root names read stub texts sorted none are = told_bytes files root stub texts are

stubs_are : (told : Option (List MemFile)) (root : List ℕ) (stub : Bool) (texts : List SourceText) → AllByRecursion (IsTextRead told root stub) texts → AllByRecursion (λ t. t.stub ≡ stub) texts
stubs_are told root stub [] are = tt
stubs_are told root stub (t ∷ ts) are = (are.0.stub_is, stubs_are told root stub ts are.1)

pub texts_are : (told : Option (List MemFile)) (root : List ℕ) (names : List (List ℕ)) (read : Option (List ℕ)) (stub : Bool) (paths : List (List ℕ)) (texts : List SourceText) → AreGoFilesOf names paths → AreTextsRead told root stub paths texts → texts ≡ texts_at stub (folder_read told root names read texts) paths
texts_are told root names read stub paths texts files are =
    let each = recursion_from_All (IsTextRead told root stub) texts are.are_read in
    let sorted : IsStrictlySortedBy (slice_cmp nat_cmp) (map (λ t. t.path) texts) =
    subst (λ (ps : List (List ℕ)). IsStrictlySortedBy (slice_cmp nat_cmp) ps) (sym are.paths_are) (files (λ path. [])).ascending in
    let none = λ (h : Contains (map (λ t. t.path) texts) module_file_path). no_module_file names paths files (subst (λ (ps : List (List ℕ)). Contains ps module_file_path) are.paths_are h) in
    as_map stub (folder_read told root names read texts) texts (stubs_are told root stub texts each) (bytes_are told root names read stub texts sorted none each)
    ∙ ap (texts_at stub (folder_read told root names read texts)) are.paths_are
