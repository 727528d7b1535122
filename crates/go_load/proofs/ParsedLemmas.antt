-- Lemmas on what texts break and on their trees, text after text.
use Rattle.std.proofs.Common.{◌≡◌, ◌≢◌, ℕ, suc, ◌+◌, ◌<◌, ◌≤◌, List, [], ◌∷◌, ◌++◌, length, map, take, get_or, refl, sym, ap, subst, ◌∙◌, arith, append_assoc, zero-add}
use Rattle.std.specs.Global.{Global}
use Rattle.std.specs.Prelude.{Vec}
use Rattle.std.proofs.lemmas.List.{append-nil, length-take-le, map-append, take_all, take_more}
use Rattle.go_base.specs.declared.rule.Broken.{Broken}
use Rattle.go_tree.specs.declared.node.File.{File}
use Rattle.go_tree.specs.Tree.{Tree, tree_of, id_of}
use Rattle.go_text.specs.Files.{IsFileOf}
use Rattle.go_module.specs.declared.places.Placed.{Placed}
use Rattle.go_module.specs.Modules.Texts.{SourceText}
use Rattle.go_load.specs.Loading.{TextsBreakFrom}
use Rattle.go_module.specs.Places.{placed_in}
use Rattle.go_module.specs.Modules.Module.{AreTrees, first_number}
use Rattle.go_load.specs.Sources.{NumbersOn, SourceBreaks}
use Rattle.go_load.specs.declared.source.ReadSource.{ReadSource}
use Rattle.go_load.specs.declared.source.ReadSource.TheVariants.{Whole, Broken as BrokenSource}
use Rattle.go_load.specs.Texts.ReadSources.{IsSource}
use Rattle.go_load.specs.Packages.Trees.{trees_in, next_number, AreNumbered, AreWhole, AreParsed, AddsText, tree, rules}

pub breaks-more : (number last first next after : ℕ) (texts : List SourceText) (text : SourceText) (before list : List Placed) (broken : List Broken) → number + length texts ≡ last → TextsBreakFrom number first texts next before → SourceBreaks last next text.path text.bytes broken → NumbersOn next text.bytes broken after → list ≡ before ++ map (placed_in text) broken → TextsBreakFrom number first (texts ++ text ∷ []) after list
breaks-more number last first next after [] text before list broken at none breaks on is =
    let same : last ≡ number = omega (arith, at) in
    let here = subst (λ n. SourceBreaks n first text.path text.bytes broken) same (subst (λ f. SourceBreaks last f text.path text.bytes broken) (sym none.0) breaks) in
    let numbers = subst (λ f. NumbersOn f text.bytes broken after) (sym none.0) on in
    (broken, [], after, here, numbers, (refl, refl), is ∙ ap (λ l. l ++ map (placed_in text) broken) none.1 ∙ sym (append-nil (map (placed_in text) broken)))
breaks-more number last first next after (t ∷ texts) text before list broken at h breaks on is =
    let new = map (placed_in text) broken in (
      h.0,
      h.1 ++ new,
      h.2,
      h.3,
      h.4,
      breaks-more (number + 1) last h.2 next after texts text h.1 (h.1 ++ new) broken (omega (arith, at)) h.5 breaks on refl,
      is ∙ ap (λ l. l ++ new) h.6 ∙ append_assoc (map (placed_in t) h.0) h.1 new,
    )

-- nodes are not numbered on over a text that breaks a rule
none_numbered : (next : ℕ) (bytes : List ℕ) (list : List Broken) → list ≢ [] → NumbersOn next bytes list next
none_numbered next bytes [] some = absurd (some refl)
none_numbered next bytes (b ∷ bs) some = NumbersOn.broken b bs

pub trees-more : (first : ℕ) (texts : List SourceText) (trees : List Tree) (text : SourceText) (t : Tree) → AreTrees first texts trees → IsFileOf text.bytes (next_number first trees) t → AreTrees first (texts ++ text ∷ []) (trees ++ t ∷ [])
trees-more first [] [] text t are is = (is, tt)
trees-more first [] (u ∷ us) text t are is = absurd are
trees-more first (x ∷ xs) [] text t are is = absurd are
trees-more first (x ∷ xs) (u ∷ us) text t are is = (are.0, trees-more (id_of u + 1) xs us text t are.1 is)

pub next_number-more : (first : ℕ) (trees : List Tree) (t : Tree) → next_number first (trees ++ t ∷ []) ≡ id_of t + 1
next_number-more first [] t = refl
next_number-more first (u ∷ us) t = next_number-more (id_of u + 1) us t

pub numbered-more : (number : ℕ) (files : List File) (file : File) → AreNumbered number files → file.number ≡ number + length files → AreNumbered number (files ++ file ∷ [])
numbered-more number [] file are is = (omega (arith, is), tt)
numbered-more number (f ∷ fs) file are is = (are.0, numbered-more (number + 1) fs file are.1 (omega (arith, is)))

pub trees-length : (first : ℕ) (texts : List SourceText) (trees : List Tree) → AreTrees first texts trees → length texts ≡ length trees
trees-length first [] [] are = refl
trees-length first [] (u ∷ us) are = absurd are
trees-length first (x ∷ xs) [] are = absurd are
trees-length first (x ∷ xs) (u ∷ us) are = ap (λ n. suc n) (trees-length (id_of u + 1) xs us are.1)

length-trees_in : (files : List File) → length (trees_in files) ≡ length files
length-trees_in [] = refl
length-trees_in (f ∷ fs) = ap (λ n. suc n) (length-trees_in fs)

none_placed : (text : SourceText) (before : List Placed) (list : List Broken) → before ++ map (placed_in text) list ≡ [] → list ≡ []
none_placed text [] [] e = refl
none_placed text [] (b ∷ bs) e = cc
none_placed text (p ∷ ps) list e = cc

module _ (texts : List SourceText) (text : SourceText) (files new : List File) (next after : ℕ) (before broken : List Placed) where
  parsed-tree : AreParsed texts files next before → (file : File) → file.number ≡ length texts → IsFileOf text.bytes next (tree_of file.root) → SourceBreaks (length texts) next text.path text.bytes [] →
      new ≡ files ++ file ∷ [] → after ≡ id_of (tree_of file.root) + 1 → broken ≡ before → AreParsed (texts ++ text ∷ []) new after broken
  parsed-tree so_far file number is none new_is after_is same =
      record {
        breaks = breaks-more 0 (length texts) first_number next after texts text before broken [] (zero-add (length texts)) so_far.breaks none (subst (NumbersOn next text.bytes []) (sym after_is) (NumbersOn.whole (tree_of file.root) is)) (same ∙ sym (append-nil before));
        whole = λ empty. whole_is (so_far.whole (sym same ∙ empty));
      }
    where
      trees_are : trees_in new ≡ trees_in files ++ tree_of file.root ∷ []
      trees_are = ap trees_in new_is ∙ map-append (λ (f : File). tree_of f.root) files (file ∷ [])

      whole_is : AreWhole texts files next → AreWhole (texts ++ text ∷ []) new after
      whole_is w =
          let here = subst (λ n. IsFileOf text.bytes n (tree_of file.root)) w.next_is is in
          let more = trees-more first_number texts (trees_in files) text (tree_of file.root) w.are_trees here in
          let same_length = trees-length first_number texts (trees_in files) w.are_trees in
          let count = length-trees_in files in
          record {
            are_trees = subst (AreTrees first_number (texts ++ text ∷ [])) (sym trees_are) more;
            next_is = after_is ∙ sym (next_number-more first_number (trees_in files) (tree_of file.root)) ∙ ap (next_number first_number) (sym trees_are);
            numbered = subst (AreNumbered 0) (sym new_is) (numbered-more 0 files file w.numbered (omega (arith, number, same_length, count)));
          }

  parsed-rules : AreParsed texts files next before → (list : List Broken) → list ≢ [] → SourceBreaks (length texts) next text.path text.bytes list → after ≡ next → broken ≡ before ++ map (placed_in text) list → AreParsed (texts ++ text ∷ []) new after broken
  parsed-rules so_far list some breaks stays is =
      record {
        breaks = breaks-more 0 (length texts) first_number next after texts text before broken list (zero-add (length texts)) so_far.breaks breaks (subst (NumbersOn next text.bytes list) (sym stays) (none_numbered next text.bytes list some)) is;
        whole = λ empty. absurd (some (none_placed text before list (sym is ∙ empty)));
      }

  pub parsed-more : AreParsed texts files next before → AddsText text (length texts) files new next after before broken → AreParsed (texts ++ text ∷ []) new after broken
  parsed-more so_far (tree file number is none new_is after_is same) = parsed-tree so_far file number is none new_is after_is same
  parsed-more so_far (rules list some breaks stays is) = parsed-rules so_far list some breaks stays is

-- no texts
pub parsed-none : (files : List File) (next : ℕ) (broken : List Placed) → files ≡ [] → next ≡ first_number → broken ≡ [] → AreParsed [] files next broken
parsed-none files next broken none next_is empty =
    record {
      breaks = (sym next_is, empty);
      whole = λ e. record {
        are_trees = subst (λ (fs : List File). AreTrees first_number [] (trees_in fs)) (sym none) tt;
        next_is = next_is ∙ ap (λ (fs : List File). next_number first_number (trees_in fs)) (sym none);
        numbered = subst (AreNumbered 0) (sym none) tt;
      };
    }

-- one more text of a list
pub parsed-step : (texts : List SourceText) (i : ℕ) (x : SourceText) (files new : List File) (next after : ℕ) (before broken : List Placed) → i < length texts → x ≡ get_or texts i x →
    AreParsed (take i texts) files next before → AddsText x i files new next after before broken → AreParsed (take (i + 1) texts) new after broken
parsed-step texts i x files new next after before broken lt is so_far adds =
    let count : length (take i texts) ≡ i = length-take-le i texts (omega (arith, lt)) in
    let here = subst (λ n. AddsText x n files new next after before broken) (sym count) adds in
    let all : take i texts ++ x ∷ [] ≡ take (i + 1) texts = ap (λ y. take i texts ++ y ∷ []) is ∙ sym (take_more texts i x lt) in
    subst (λ l. AreParsed l new after broken) all (parsed-more (take i texts) x files new next after before broken so_far here)

-- all texts
pub parsed-all : (texts : List SourceText) (i : ℕ) (files : List File) (next : ℕ) (broken : List Placed) → length texts ≤ i → AreParsed (take i texts) files next broken → AreParsed texts files next broken
parsed-all texts i files next broken le so_far = subst (λ l. AreParsed l files next broken) (take_all i texts le) so_far

-- a text that is whole stands behind the others with its tree
pub adds-tree : (text : SourceText) (path bytes : List ℕ) (number next : ℕ) (read : ReadSource) (file : File) (old new : List File) (after : ℕ) (before : List Placed) →
    path ≡ text.path → bytes ≡ text.bytes → read ≡ Whole file → IsSource path bytes number next read → new ≡ old ++ file ∷ [] → after ≡ id_of (tree_of file.root) + 1 → AddsText text number old new next after before before
adds-tree text path bytes number next read file old new after before path_is bytes_is read_is source push after_is =
    let here = subst (λ p. IsSource p text.bytes number next (Whole file)) path_is
    (subst (λ b. IsSource path b number next (Whole file)) bytes_is
    (subst (IsSource path bytes number next) read_is source)) in
    tree file here.0 here.1 here.2 push after_is refl

-- one that breaks rules with these
pub adds-rules : (text : SourceText) (path bytes : List ℕ) (number next : ℕ) (read : ReadSource) (list : Vec Broken Global) (files : List File) (placed before broken : List Placed) →
    path ≡ text.path → bytes ≡ text.bytes → read ≡ BrokenSource list → IsSource path bytes number next read → placed ≡ map (placed_in text) list.items → broken ≡ before ++ placed → AddsText text number files files next next before broken
adds-rules text path bytes number next read list files placed before broken path_is bytes_is read_is source placed_is append =
    let here = subst (λ p. IsSource p text.bytes number next (BrokenSource list)) path_is
    (subst (λ b. IsSource path b number next (BrokenSource list)) bytes_is
    (subst (IsSource path bytes number next) read_is source)) in
    rules list.items here.0 here.1 refl (append ∙ ap (λ l. before ++ l) placed_is)

-- as many trees as texts, where nothing is broken
pub parsed-length : (texts : List SourceText) (files : List File) (next : ℕ) (broken : List Placed) → AreParsed texts files next broken → broken ≡ [] → length texts ≡ length files
parsed-length texts files next broken parsed none =
    trees-length first_number texts (trees_in files) (parsed.whole none).are_trees ∙ length-trees_in files
