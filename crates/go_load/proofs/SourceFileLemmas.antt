-- Lemmas on files of their texts and trees.
use Rattle.std.proofs.Common.{◌≡◌, ℕ, ◌+◌, ◌-◌, List, [], ◌∷◌, ◌++◌, Option, None, Some, length, map, take, reverse, refl, sym, ap, ◌∙◌, arith, append_assoc}
use Rattle.std.specs.Prelude.{MatchOption, option_to_list}
use Rattle.std.proofs.lemmas.List.{append-nil, reverse-append}
use Rattle.indexmap.proofs.ReorderLemmas.{map-reverse}
use Rattle.go_tree.specs.declared.node.File.{File}
use Rattle.go_tree.specs.Tree.{tree_of}
use Rattle.go_module.specs.declared.module.SourceFile.{SourceFile}
use Rattle.go_module.specs.Modules.Texts.{SourceText}
use Rattle.go_module.specs.Modules.Module.{FileData, file_view, files_from}
use Rattle.go_load.specs.Packages.SourceFiles.{file_if, file_with, joined}
use Rattle.go_load.specs.Packages.Trees.{AreNumbered, trees_in}

-- files with the numbers of their trees
pub joined-numbered : (number : ℕ) (texts : List SourceText) (files : List File) → AreNumbered number files → joined texts files ≡ files_from number texts (trees_in files)
joined-numbered number [] [] are = refl
joined-numbered number [] (f ∷ fs) are = refl
joined-numbered number (x ∷ xs) [] are = refl
joined-numbered number (x ∷ xs) (f ∷ fs) are =
    ap (λ n. record { path = x.path; bytes = x.bytes; number = n; tree = tree_of f.root } ∷ joined xs fs) are.0
    ∙ ap (λ l. record { path = x.path; bytes = x.bytes; number = number; tree = tree_of f.root } ∷ l) (joined-numbered (number + 1) xs fs are.1)

joined-last : (texts : List SourceText) (files : List File) (x : SourceText) (f : File) → length texts ≡ length files → joined (texts ++ x ∷ []) (files ++ f ∷ []) ≡ joined texts files ++ file_with x f ∷ []
joined-last [] [] x f e = refl
joined-last [] (g ∷ gs) x f e = absurd (omega (arith, e))
joined-last (y ∷ ys) [] x f e = absurd (omega (arith, e))
joined-last (y ∷ ys) (g ∷ gs) x f e = ap (λ l. file_with y g ∷ l) (joined-last ys gs x f (omega (arith, e)))

length-last : {X : Type 0} (xs : List X) (x : X) → length (xs ++ x ∷ []) ≡ length xs + 1
length-last [] x = refl
length-last (y ∷ ys) x = omega (arith, length-last ys x)

module _ (texts rest : List SourceText) (trees others : List File) (file : File) (old new : List SourceFile) (whole : List FileData) where
  -- one more file from the end
  pub file-next : (text : Option SourceText) → texts ≡ rest ++ option_to_list text → (n m : ℕ) → MatchOption text ((n ≡ 0) × (m ≡ 0)) (λ _. m + 1 ≡ n) → rest ≡ take (n - 1) texts → trees ≡ others ++ file ∷ [] → map file_view new ≡ map file_view old ++ file_if text file →
      (length texts ≡ length trees) × (joined texts trees ++ reverse (map file_view old) ≡ whole) → (length rest ≡ length others) × (joined rest others ++ reverse (map file_view new) ≡ whole)
  file-next None split n m none front cut push so_far =
      let count = length-last others file in
      let all : length trees ≡ length others + 1 = ap length cut ∙ count in
      let empty : texts ≡ [] = split ∙ append-nil rest ∙ front ∙ ap (λ k. take (k - 1) texts) none.0 in
      let size = ap length empty in
      absurd (omega (arith, so_far.0, all, size))
  file-next (Some text) split n m some front cut push so_far =
      let count = length-last others file in
      let count2 = length-last rest text in
      let all : length trees ≡ length others + 1 = ap length cut ∙ count in
      let all2 : length texts ≡ length rest + 1 = ap length split ∙ count2 in
      let same : length rest ≡ length others = omega (arith, so_far.0, all, all2) in
      let here = file_with text file in
      let turned : reverse (map file_view new) ≡ here ∷ reverse (map file_view old) = ap reverse push ∙ reverse-append (map file_view old) (here ∷ []) in
      let front : joined texts trees ≡ joined rest others ++ here ∷ [] = ap (λ l. joined l trees) split ∙ ap (joined (rest ++ text ∷ [])) cut ∙ joined-last rest others text file same in (
        same,
        ap (λ l. joined rest others ++ l) turned
            ∙ sym (append_assoc (joined rest others) (here ∷ []) (reverse (map file_view old)))
            ∙ ap (λ l. l ++ reverse (map file_view old)) (sym front)
            ∙ so_far.1,
      )

joined-none : (files : List File) → joined [] files ≡ []
joined-none [] = refl
joined-none (f ∷ fs) = refl

-- all files
pub files-last : (texts : List SourceText) (trees others : List File) (old new : List SourceFile) (n : ℕ) (whole : List FileData) → n ≡ 0 → others ≡ take (n - 1) trees → trees ≡ others ++ [] → new ≡ reverse old →
    (length texts ≡ length trees) × (joined texts trees ++ reverse (map file_view old) ≡ whole) → map file_view new ≡ whole
files-last [] trees others old new n whole zero front split turned so_far =
    ap (map file_view) turned ∙ map-reverse file_view old ∙ ap (λ l. l ++ reverse (map file_view old)) (sym (joined-none trees)) ∙ so_far.1
files-last (x ∷ xs) trees others old new n whole zero front split turned so_far =
    let none : trees ≡ [] = split ∙ append-nil others ∙ front ∙ ap (λ k. take (k - 1) trees) zero in
    let size = ap length none in
    absurd (omega (arith, so_far.0, size))
