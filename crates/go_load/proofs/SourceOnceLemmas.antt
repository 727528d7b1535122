-- What each text breaks by itself: one list, and one number behind its nodes.
use Rattle.std.proofs.Common.{◌≡◌, ◌≢◌, ℕ, ◌+◌, ◌<◌, List, [], ◌∷◌, ◌++◌, map, Some, None, refl, sym, ap, subst, ◌∙◌, arith}
use Rattle.go_base.specs.declared.rule.Broken.{Broken}
use Rattle.go_tree.specs.Tree.{Tree, id_of, start_of}
use Rattle.go_text.specs.declared.fault.ParseFault.{ParseFault}
use Rattle.go_text.specs.declared.fault.ParseFault.TheVariants.{NoMemory}
use Rattle.go_text.specs.Faults.{IsFaultOf}
use Rattle.go_text.specs.Files.{IsFileOf}
use Rattle.go_parse_s.proofs.LawLemmas.{one_file_lem, one_fault_lem, file_or_fault_lem}
use Rattle.go_form.specs.BuildConstraints.{AreBuildConstraints}
use Rattle.go_form.specs.Fault.{broken_by}
use Rattle.go_form.specs.Whole.{broken_forms}
use Rattle.go_module.specs.declared.places.Placed.{Placed}
use Rattle.go_module.specs.Modules.Module.{first_number}
use Rattle.go_module.specs.Modules.Texts.{SourceText}
use Rattle.go_module.specs.Order.{IsListOf}
use Rattle.go_module.specs.Places.{placed_in}
use Rattle.go_module.proofs.AscendingLemmas.{ascending_once}
use Rattle.go_module.proofs.BrokenListLemmas.{one_list}
use Rattle.go_load.specs.Loading.{TextsBreak, TextsBreakFrom}
use Rattle.go_load.specs.Sources.{AreBrokenWith, NumbersOn, SourceBreaks, broken_path, too_long, no_tree, by_form, whole, broken}

constraints_once : (bytes : List ℕ) (clause : ℕ) (a b : List ℕ) → AreBuildConstraints bytes clause a → AreBuildConstraints bytes clause b → a ≡ b
constraints_once bytes clause a b f g =
    ascending_once (λ m n. m < n) (λ n (lt : n < n). omega (arith, lt)) (λ l m n (x : l < m) (y : m < n). omega (arith, x, y)) a b f.ascending g.ascending
    (λ n h. (g.same n).1 ((f.same n).0 h))
    (λ n h. (f.same n).1 ((g.same n).0 h))

-- a file with a tree breaks one list
with_once : (file : ℕ) (path bytes : List ℕ) (tree : Tree) (a b : List Broken) → AreBrokenWith file path bytes tree a → AreBrokenWith file path bytes tree b → a ≡ b
with_once file path bytes tree a b f g =
    let same = constraints_once bytes (start_of tree) f.constraints g.constraints f.are_constraints g.are_constraints in
    let moved = subst (λ (cs : List ℕ). IsListOf (broken_path file path ++ broken_forms file cs tree) a) same f.is_list in
    one_list (broken_path file path ++ broken_forms file g.constraints tree) a b moved g.is_list

-- a fault that breaks a rule is not want of memory
is_told : (file : ℕ) (fault : ParseFault) (b : Broken) → broken_by file fault ≡ Some b → fault ≢ NoMemory
is_told file fault b e memory = let none : None ≡ Some b = sym (ap (broken_by file) memory) ∙ e in absurd (cc none)

one_some : (a b : Broken) → Some a ≡ Some b → a ∷ [] ≡ b ∷ []
one_some a b e = cc e

module _ (file first : ℕ) (path bytes : List ℕ) where
  no_fault : (tree : Tree) (fault : ParseFault) (b : Broken) → IsFileOf bytes first tree → IsFaultOf bytes fault → broken_by file fault ≡ Some b → ⊥
  no_fault tree fault b is at e = file_or_fault_lem bytes first tree fault is at (is_told file fault b e)

  fault_once : (f g : ParseFault) (a b : Broken) → IsFaultOf bytes f → IsFaultOf bytes g → broken_by file f ≡ Some a → broken_by file g ≡ Some b → a ∷ [] ≡ b ∷ []
  fault_once f g a b x y e d =
      let same = one_fault_lem bytes f g x y (is_told file f a e) (is_told file g b d) in
      one_some a b (sym e ∙ ap (broken_by file) same ∙ d)

  -- a file breaks one list by itself
  pub source_once : (a b : List Broken) → SourceBreaks file first path bytes a → SourceBreaks file first path bytes b → a ≡ b
  source_once a b (too_long lt) (too_long _) = refl
  source_once a b (too_long lt) (no_tree g y le _ _) = absurd (omega (arith, lt, le))
  source_once a b (too_long lt) (by_form u ys le _ _) = absurd (omega (arith, lt, le))
  source_once a b (no_tree f x le _ _) (too_long lt) = absurd (omega (arith, lt, le))
  source_once a b (no_tree f x _ at e) (no_tree g y _ there d) = fault_once f g x y at there e d
  source_once a b (no_tree f x _ at e) (by_form u ys _ is _) = absurd (no_fault u f x is at e)
  source_once a b (by_form t xs le _ _) (too_long lt) = absurd (omega (arith, lt, le))
  source_once a b (by_form t xs _ is _) (no_tree g y _ at e) = absurd (no_fault t g y is at e)
  source_once a b (by_form t xs _ is with) (by_form u ys _ it other) =
      with_once file path bytes u a b (subst (λ (v : Tree). AreBrokenWith file path bytes v a) (one_file_lem bytes first t u is it) with) other

-- one number is free behind its nodes
next_once : (first : ℕ) (bytes : List ℕ) (list : List Broken) (m n : ℕ) → NumbersOn first bytes list m → NumbersOn first bytes list n → m ≡ n
next_once first bytes list m n (whole t is) (whole u it) = ap (λ (v : Tree). id_of v + 1) (one_file_lem bytes first t u is it)
next_once first bytes list m n (broken x xs) (broken y ys) = refl

texts_break_once : (number first : ℕ) (texts : List SourceText) (m n : ℕ) (a b : List Placed) → TextsBreakFrom number first texts m a → TextsBreakFrom number first texts n b → a ≡ b
texts_break_once number first [] m n a b f g = f.1 ∙ sym g.1
texts_break_once number first (text ∷ texts) m n a b f g =
    let list : f.0 ≡ g.0 = source_once number first text.path text.bytes f.0 g.0 f.3 g.3 in
    let mid : f.2 ≡ g.2 = next_once first text.bytes g.0 f.2 g.2 (subst (λ (l : List Broken). NumbersOn first text.bytes l f.2) list f.4) g.4 in
    let moved : TextsBreakFrom (number + 1) g.2 texts m f.1 = subst (λ k. TextsBreakFrom (number + 1) k texts m f.1) mid f.5 in
    let others : f.1 ≡ g.1 = texts_break_once (number + 1) g.2 texts m n f.1 g.1 moved g.5 in
    f.6 ∙ (λ i. map (placed_in text) (list i) ++ others i) ∙ sym g.6

-- texts break one list by themselves
pub breaks_once : (texts : List SourceText) (a b : List Placed) → TextsBreak texts a → TextsBreak texts b → a ≡ b
breaks_once texts a b f g = texts_break_once 0 first_number texts f.0 g.0 a b f.1 g.1
