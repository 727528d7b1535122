-- What is read of two folders: one list of texts, and one path of the module.
use Rattle.std.proofs.Common.{◌≡◌, ℕ, true, false, List, [], ◌∷◌, ◌++◌, Option, None, Some, sym, ◌∙◌, arith}
use Rattle.std.specs.Cmp.{tied_itself}
use Rattle.std.specs.Cmp.Lexicographic.{slice_cmp}
use Rattle.std.specs.List.{AllPairs, Contains}
use Rattle.std.specs.List.Sorted.{IsStrictlySortedBy}
use Rattle.std.specs.Ordering.{nat_cmp}
use Rattle.std.specs.declared.cmp.Ordering.TheVariants.{Less}
use Rattle.std.proofs.lemmas.Cmp.{nat_list_cmp_total}
use Rattle.std.proofs.lemmas.List.Elements.{All-from_recursion}
use Rattle.std.proofs.lemmas.List.Kept.{AllPairs-cons}
use Rattle.go_base.specs.declared.tree.MemFile.{MemFile}
use Rattle.go_mod.specs.Folders.{AreGoFiles, AreTexts, Folder, IsBelow, IsBelowSome, texts_at}
use Rattle.go_module.specs.Modules.Texts.{SourceText}
use Rattle.go_module.proofs.AscendingLemmas.{ascending_once}
use Rattle.go_load.specs.Loading.{IsReadFrom}

-- a path stands before another in byte order
abbrev StandsBefore : List ℕ → List ℕ → Type 0
StandsBefore x y = slice_cmp nat_cmp x y ≡ Less

before_irrefl : (x : List ℕ) → StandsBefore x x → ⊥
before_irrefl x less = let e = sym (tied_itself nat_list_cmp_total x) ∙ less in absurd (cc e)

sorted_pairs : (xs : List (List ℕ)) → IsStrictlySortedBy (slice_cmp nat_cmp) xs → AllPairs StandsBefore xs
unfolding IsStrictlySortedBy
sorted_pairs [] h = λ i j d lt within. absurd (omega (arith, lt, within))
sorted_pairs (x ∷ xs) h = AllPairs-cons StandsBefore x xs (All-from_recursion (StandsBefore x) xs h.0) (sorted_pairs xs h.1)

-- one list in strictly ascending byte order has given paths
pub paths_once : (a b : List (List ℕ)) → IsStrictlySortedBy (slice_cmp nat_cmp) a → IsStrictlySortedBy (slice_cmp nat_cmp) b
    → ((p : List ℕ) → Contains a p → Contains b p) → ((p : List ℕ) → Contains b p → Contains a p) → a ≡ b
paths_once a b up_a up_b there back = ascending_once StandsBefore before_irrefl nat_list_cmp_total.trans a b (sorted_pairs a up_a) (sorted_pairs b up_b) there back

-- a folder has one list of Go files
go_files_once : (folder : Folder) (a b : List (List ℕ)) → AreGoFiles folder a → AreGoFiles folder b → a ≡ b
go_files_once folder a b f g = paths_once a b f.ascending g.ascending (λ p h. (g.same p).1 ((f.same p).0 h)) (λ p h. (f.same p).1 ((g.same p).0 h))

texts_once : (own stubs : Folder) (a b : List SourceText) → AreTexts own stubs a → AreTexts own stubs b → a ≡ b
texts_once own stubs a b f g =
    let first = go_files_once own f.own_paths g.own_paths f.are_own g.are_own in
    let last = go_files_once stubs f.stub_paths g.stub_paths f.are_stubs g.are_stubs in
    f.texts_are ∙ (λ i. texts_at false own (first i) ++ texts_at true stubs (last i)) ∙ sym g.texts_are

one_item : (p q : List ℕ) (xs : List (List ℕ)) → xs ≡ p ∷ [] → xs ≡ q ∷ [] → p ≡ q
one_item p q xs e f = cc (e, f)

-- one path and one list of texts is read of two folders
pub path_once : (own stubs : Folder) (p q : List ℕ) (a b : List SourceText) → IsReadFrom own stubs p a → IsReadFrom own stubs q b → p ≡ q
path_once own stubs p q a b f g = one_item p q _ f.path_is g.path_is

pub read_once : (own stubs : Folder) (p q : List ℕ) (a b : List SourceText) → IsReadFrom own stubs p a → IsReadFrom own stubs q b → a ≡ b
read_once own stubs p q a b f g = texts_once own stubs a b f.are_texts g.are_texts

-- one folder lies below a root of a tree that tells its files
pub own_once : (files : List MemFile) (root : List ℕ) (a b : Folder) → IsBelow (Some files) root a → IsBelow (Some files) root b → a ≡ b
own_once files root a b f g = f ∙ sym g

pub stubs_once : (files : List MemFile) (root : Option (List ℕ)) (a b : Folder) → IsBelowSome (Some files) root a → IsBelowSome (Some files) root b → a ≡ b
stubs_once files None a b f g = f ∙ sym g
stubs_once files (Some root) a b f g = f ∙ sym g
