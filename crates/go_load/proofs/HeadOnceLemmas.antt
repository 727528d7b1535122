-- Texts have one list of trees and one list of heads.
use Rattle.std.proofs.Common.{◌≡◌, ℕ, ◌+◌, Bool, List, [], ◌∷◌, refl, sym, subst, ◌∙◌, arith}
use Rattle.go_parse_s.proofs.LawLemmas.{one_file_lem}
use Rattle.go_tree.specs.Tree.{Tree, id_of, text_of}
use Rattle.go_module.specs.Modules.Heads.{AreImports, FileHead, ImportSpec, IsHeadOf, IsImportOf, IsImportPath, import_specs, import_string, literal, long, other}
use Rattle.go_module.specs.Modules.Module.{AreHeads, AreTrees}
use Rattle.go_module.specs.Modules.Texts.{SourceText}

-- texts have one list of trees
pub trees_once : (first : ℕ) (texts : List SourceText) (a b : List Tree) → AreTrees first texts a → AreTrees first texts b → a ≡ b
trees_once first [] [] [] f g = refl
trees_once first [] [] (u ∷ us) f g = absurd g
trees_once first [] (t ∷ ts) b f g = absurd f
trees_once first (text ∷ texts) [] b f g = absurd f
trees_once first (text ∷ texts) (t ∷ ts) [] f g = absurd g
trees_once first (text ∷ texts) (t ∷ ts) (u ∷ us) f g =
    let tree : t ≡ u = one_file_lem text.bytes first t u f.0 g.0 in
    let moved : AreTrees (id_of u + 1) texts ts = subst (λ (v : Tree). AreTrees (id_of v + 1) texts ts) tree f.1 in
    let trees : ts ≡ us = trees_once (id_of u + 1) texts ts us moved g.1 in
    λ i. tree i ∷ trees i

-- a string literal names one path
path_once : (text a b : List ℕ) → IsImportPath text a → IsImportPath text b → a ≡ b
path_once text a b (literal t is le) (literal u it fits) = refl
path_once text a b (literal t is le) (long u it lt) = absurd (omega (arith, le, lt))
path_once text a b (literal t is le) (other none) = absurd (none t is)
path_once text a b (long t is lt) (literal u it le) = absurd (omega (arith, le, lt))
path_once text a b (long t is lt) (long u it past) = refl
path_once text a b (long t is lt) (other none) = refl
path_once text a b (other none) (literal u it le) = absurd (none u it)
path_once text a b (other none) (long u it lt) = refl
path_once text a b (other none) (other no_string) = refl

import_once : (spec : Tree) (a b : ImportSpec) → IsImportOf spec a → IsImportOf spec b → a ≡ b
import_once spec a b f g =
    let path = path_once (text_of (import_string spec)) a.path b.path f.path g.path in
    let at = f.at ∙ sym g.at in
    λ i. record { path = path i; at = at i }

imports_once : (specs : List Tree) (a b : List ImportSpec) → AreImports specs a → AreImports specs b → a ≡ b
imports_once [] [] [] f g = refl
imports_once [] [] (y ∷ ys) f g = absurd g
imports_once [] (x ∷ xs) b f g = absurd f
imports_once (s ∷ ss) [] b f g = absurd f
imports_once (s ∷ ss) (x ∷ xs) [] f g = absurd g
imports_once (s ∷ ss) (x ∷ xs) (y ∷ ys) f g =
    let first = import_once s x y f.0 g.0 in
    let others = imports_once ss xs ys f.1 g.1 in
    λ i. first i ∷ others i

head_once : (stub : Bool) (path : List ℕ) (tree : Tree) (a b : FileHead) → IsHeadOf stub path tree a → IsHeadOf stub path tree b → a ≡ b
head_once stub path tree a b f g =
    let flag = f.stub_is ∙ sym g.stub_is in
    let at = f.path_is ∙ sym g.path_is in
    let name = f.name_is ∙ sym g.name_is in
    let name_at = f.name_at_is ∙ sym g.name_at_is in
    let imports = imports_once (import_specs tree) a.imports b.imports f.imports_are g.imports_are in
    λ i. record { stub = flag i; path = at i; name = name i; name_at = name_at i; imports = imports i }

-- and one list of heads
pub heads_once : (texts : List SourceText) (trees : List Tree) (a b : List FileHead) → AreHeads texts trees a → AreHeads texts trees b → a ≡ b
heads_once (text ∷ texts) (tree ∷ trees) (x ∷ xs) (y ∷ ys) f g =
    let first = head_once text.stub text.path tree x y f.0 g.0 in
    let others = heads_once texts trees xs ys f.1 g.1 in
    λ i. first i ∷ others i
heads_once (text ∷ texts) (tree ∷ trees) (x ∷ xs) [] f g = absurd g
heads_once (text ∷ texts) (tree ∷ trees) [] b f g = absurd f
heads_once (text ∷ texts) [] a b f g = absurd f
heads_once [] (tree ∷ trees) a b f g = absurd f
heads_once [] [] [] [] f g = refl
heads_once [] [] [] (y ∷ ys) f g = absurd g
heads_once [] [] (x ∷ xs) b f g = absurd f
