-- Lemmas on the heads of files.
use Rattle.std.proofs.Common.{◌≡◌, ℕ, ◌+◌, ◌<◌, List, [], ◌∷◌, ◌++◌, length, map, take, get_or, sym, ap, subst, ◌∙◌, append_assoc}
use Rattle.std.specs.List.{flat_map}
use Rattle.std.proofs.lemmas.Grind.{flat_map-append}
use Rattle.std.proofs.lemmas.List.{append-nil, map-append, take_more}
use Rattle.go_tree.specs.declared.node.File.{File}
use Rattle.go_tree.specs.declared.node.Node.{Node}
use Rattle.go_tree.specs.Tree.{Tree, tree_of}
use Rattle.go_module.specs.Modules.Texts.{SourceText}
use Rattle.go_module.specs.Modules.Heads.{FileHead, ImportSpec, AreImports, IsHeadOf, IsImportOf, specs_in}
use Rattle.go_module.specs.Modules.Module.{AreHeads}
use Rattle.go_load.specs.Packages.Trees.{AddsImports, trees_in}

imports-append : (a b : List Tree) (x y : List ImportSpec) → AreImports a x → AreImports b y → AreImports (a ++ b) (x ++ y)
imports-append [] b [] y h k = k
imports-append [] b (i ∷ x) y h k = absurd h
imports-append (s ∷ a) b [] y h k = absurd h
imports-append (s ∷ a) b (i ∷ x) y h k = (h.0, imports-append a b x y h.1 k)

heads-append : (xs : List SourceText) (ts : List Tree) (hs : List FileHead) (x : SourceText) (t : Tree) (h : FileHead) → AreHeads xs ts hs → IsHeadOf x.stub x.path t h → AreHeads (xs ++ x ∷ []) (ts ++ t ∷ []) (hs ++ h ∷ [])
heads-append [] [] [] x t h are is = (is, tt)
heads-append (y ∷ ys) (u ∷ us) (k ∷ ks) x t h are is = (are.0, heads-append ys us ks x t h are.1 is)
heads-append _ _ _ x t h are is = absurd are

-- the trees of one more node
trees_more : (ns : List Node) (i : ℕ) (n : Node) → i < length ns → n ≡ get_or ns i n → map tree_of (take (i + 1) ns) ≡ map tree_of (take i ns) ++ tree_of n ∷ []
trees_more ns i n lt is =
    ap (map tree_of) (take_more ns i n lt) ∙ map-append tree_of (take i ns) (get_or ns i n ∷ []) ∙ ap (λ m. map tree_of (take i ns) ++ tree_of m ∷ []) (sym is)

-- one more import
pub imports-more : (specs : List Node) (i : ℕ) (n : Node) (old items new : List ImportSpec) (x : ImportSpec) → i < length specs → n ≡ get_or specs i n →
    AddsImports (map tree_of (take i specs)) old items → IsImportOf (tree_of n) x → new ≡ items ++ x ∷ [] → AddsImports (map tree_of (take (i + 1) specs)) old new
imports-more specs i n old items new x lt is so_far import push =
    record {
      added = so_far.added ++ x ∷ [];
      are_imports =
          let more = imports-append (map tree_of (take i specs)) (tree_of n ∷ []) so_far.added (x ∷ []) so_far.are_imports (import, tt) in
          subst (λ ts. AreImports ts (so_far.added ++ x ∷ [])) (sym (trees_more specs i n lt is)) more;
      new_is = push ∙ ap (λ l. l ++ x ∷ []) so_far.new_is ∙ append_assoc old so_far.added (x ∷ []);
    }

-- the imports of one more declaration
pub declaration-more : (ns : List Node) (i : ℕ) (n : Node) (items new : List ImportSpec) → i < length ns → n ≡ get_or ns i n →
    AreImports (flat_map specs_in (map tree_of (take i ns))) items → AddsImports (specs_in (tree_of n)) items new → AreImports (flat_map specs_in (map tree_of (take (i + 1) ns))) new
declaration-more ns i n items new lt is so_far adds =
    let before = map tree_of (take i ns) in
    let more = imports-append (flat_map specs_in before) (specs_in (tree_of n)) items adds.added so_far adds.are_imports in
    let last : flat_map specs_in (tree_of n ∷ []) ≡ specs_in (tree_of n) = append-nil (specs_in (tree_of n)) in
    let all : flat_map specs_in (map tree_of (take (i + 1) ns)) ≡ flat_map specs_in before ++ specs_in (tree_of n) =
    ap (flat_map specs_in) (trees_more ns i n lt is) ∙ flat_map-append specs_in before (tree_of n ∷ []) ∙ ap (λ l. flat_map specs_in before ++ l) last in
    subst (λ ts. AreImports ts new) (sym all) (subst (AreImports (flat_map specs_in before ++ specs_in (tree_of n))) (sym adds.new_is) more)

-- one more head
pub heads-more : (texts : List SourceText) (files : List File) (i : ℕ) (x : SourceText) (f : File) (items new : List FileHead) (h : FileHead) → i < length texts → i < length files →
    x ≡ get_or texts i x → AreHeads (take i texts) (trees_in (take i files)) items → IsHeadOf x.stub x.path (tree_of (get_or files i f).root) h → new ≡ items ++ h ∷ [] →
    AreHeads (take (i + 1) texts) (trees_in (take (i + 1) files)) new
heads-more texts files i x f items new h lt lt2 x_is so_far head push =
    let t = tree_of (get_or files i f).root in
    let more = heads-append (take i texts) (trees_in (take i files)) items x t h so_far head in
    let xs : take i texts ++ x ∷ [] ≡ take (i + 1) texts = ap (λ y. take i texts ++ y ∷ []) x_is ∙ sym (take_more texts i x lt) in
    let ts : trees_in (take i files) ++ t ∷ [] ≡ trees_in (take (i + 1) files) =
    sym (map-append (λ (g : File). tree_of g.root) (take i files) (get_or files i f ∷ [])) ∙ ap trees_in (sym (take_more files i f lt2)) in
    subst (AreHeads (take (i + 1) texts) (trees_in (take (i + 1) files))) (sym push)
    (subst (λ l. AreHeads (take (i + 1) texts) l (items ++ h ∷ [])) ts
    (subst (λ l. AreHeads l (trees_in (take i files) ++ t ∷ []) (items ++ h ∷ [])) xs more))
