-- Lemmas on specs/Tree.antt.
use Rattle.std.proofs.Common.{◌≡◌, ℕ, ◌+◌, ◌<◌, List, [], ◌∷◌, ◌++◌, length, take, get_or, Any, sym}
use Rattle.std.proofs.Common.{ap, subst, ◌∙◌, arith, length-take}
use Rattle.std.proofs.lemmas.List.{get_or-take, get_or_default, take_more}
use Rattle.std.proofs.lemmas.List.Quantifiers.{all_pairs_push}
use Rattle.go_base.specs.declared.tree.MemFile.{MemFile}
use Rattle.go_base.specs.Tree.{IsSamePlace, HasDistinctPaths}

-- some file has the place of this one
abbrev pub IsAmong : List MemFile → MemFile → Type 0
IsAmong files file = Any (λ other. IsSamePlace other file) files

pub distinct_more : (files : List MemFile) (i : ℕ) (file : MemFile) → i < length files →
    get_or files i file ≡ file → HasDistinctPaths (take i files) →
    (IsAmong (take i files) file → ⊥) → HasDistinctPaths (take (i + 1) files)
distinct_more files i file short at distinct none =
    let more : HasDistinctPaths (take i files ++ file ∷ []) =
    all_pairs_push (λ a b. IsSamePlace a b → ⊥) (take i files) file distinct
    (λ k d lt same. let other = get_or (take i files) k d in
    none (k, other, lt, get_or_default (take i files) k other d lt, same)) in
    let longer =
    take_more files i file short ∙ ap (λ (last : MemFile). take i files ++ last ∷ []) at in
    subst HasDistinctPaths (sym longer) more

pub among_breaks : (files : List MemFile) (i : ℕ) (file : MemFile) → i < length files →
    get_or files i file ≡ file → IsAmong (take i files) file → HasDistinctPaths files → ⊥
among_breaks files i file short at (k, other, lt, found, same) distinct =
    let below : k < i = omega (arith, length-take {A = MemFile}) in
    let there : get_or files k file ≡ other =
    get_or_default files k file other (omega arith)
    ∙ sym (get_or-take i files k other below) ∙ found in
    let here : IsSamePlace other (get_or files i file) =
    subst (λ (b : MemFile). IsSamePlace other b) (sym at) same in
    distinct k i file below short
    (subst (λ (a : MemFile). IsSamePlace a (get_or files i file)) (sym there) here)
