-- A file in which no floating-point literal is written has none: a copy is of a list that is written before it.
use Rattle.std.proofs.Common.{◌≡◌, ℕ, ◌+◌, Bool, true, false, List, [], ◌∷◌, Contains, refl, sym, subst}
use Rattle.std.specs.Prelude.{if◌then◌else◌}
use Rattle.std.proofs.lemmas.List.Elements.{Contains-append_left, Contains-append_right}
use Rattle.go_tree.specs.declared.node_kind.NodeKind.{NodeKind}
use Rattle.go_tree.specs.declared.node_kind.NodeKind.TheVariants.{FloatLit}
use Rattle.go_tree.specs.declared.production.Production.TheVariants.{File}
use Rattle.go_tree.specs.Tree.{Tree, Trees, branch, more_trees, no_trees, node_count}
use Rattle.go_text.specs.Copies.{all_with_copies, completed, copy_if_any, is_group, list_behind, specs_with_copies, with_copies}
use Rattle.go_text.specs.CopyCount.{is_copy}
use Rattle.go_text.specs.Files.{IsFileOf}
use Rattle.go_text.specs.Numbers.{all_numbered, numbered}
use Rattle.go_module.proofs.MemberLemmas.{contains_head, contains_tail}
use Rattle.go_form.specs.Families.Declarations.{float_literal_at}
use Rattle.go_form.specs.Whole.{written, written_among}
use Rattle.go_laws.proofs.CopyFreeLemmas.{AreFree, IsFree, derived_copy_free}

abbrev pub is_float : NodeKind → Bool
is_float FloatLit = true
is_float kind = false

-- no node that is written is one
abbrev pub NoFloats : Tree → Type 0
NoFloats t = (s : Tree) → Contains (written t) s → float_literal_at s ≡ []

abbrev NoFloatsAmong : Trees → Type 0
NoFloatsAmong ts = (s : Tree) → Contains (written_among ts) s → float_literal_at s ≡ []

-- by recursion: a node that is no copy is none, and nothing in it is
abbrev mutual
  IsWrittenFree : Tree → Type 0
  IsWrittenFree (branch id from to kind text parts) = is_copy kind ≡ false → (is_float kind ≡ false) × AreWrittenFree parts

  AreWrittenFree : Trees → Type 0
  AreWrittenFree no_trees = Unit {0}
  AreWrittenFree (more_trees t ts) = IsWrittenFree t × AreWrittenFree ts

not_float : (id from to : ℕ) (kind : NodeKind) (text : List ℕ) (parts : Trees)
    → float_literal_at (branch id from to kind text parts) ≡ [] → is_float kind ≡ false
not_float id from to FloatLit text parts e = let never : from ∷ [] ≡ [] = e in cc
not_float id from to kind text parts e = refl

-- what is written in a node that is no copy
abbrev NoneOf : Tree → Trees → Bool → Type 0
NoneOf t parts copy = (s : Tree) → Contains (if copy then [] else t ∷ written_among parts) s → float_literal_at s ≡ []

mutual
  written_free : (t : Tree) → NoFloats t → IsWrittenFree t
  written_free (branch id from to kind text parts) floats = λ is.
      (let t = branch id from to kind text parts in
      let none : NoneOf t parts false = subst (NoneOf t parts) is floats in (
        not_float id from to kind text parts (none t (contains_head t (written_among parts) t refl)),
        written_among_free parts (λ s h. none s (contains_tail t (written_among parts) s h)),
      ))

  written_among_free : (ts : Trees) → NoFloatsAmong ts → AreWrittenFree ts
  written_among_free no_trees floats = tt
  written_among_free (more_trees t ts) floats = (
    written_free t (λ s h. floats s (Contains-append_left (written t) (written_among ts) s h)),
    written_among_free ts (λ s h. floats s (Contains-append_right (written t) (written_among ts) s h)),
  )

-- NUMBERS

mutual
  unnumbered_free : (first : ℕ) (t : Tree) → IsWrittenFree (numbered first t) → IsWrittenFree t
  unnumbered_free first (branch id from to kind text parts) free =
      λ is. ((free is).0, all_unnumbered_free first parts (free is).1)

  all_unnumbered_free : (first : ℕ) (ts : Trees) → AreWrittenFree (all_numbered first ts) → AreWrittenFree ts
  all_unnumbered_free first no_trees free = tt
  all_unnumbered_free first (more_trees t ts) free =
      (unnumbered_free first t free.0, all_unnumbered_free (first + node_count t) ts free.1)

mutual
  numbered_free : (first : ℕ) (t : Tree) → IsFree is_float t → IsFree is_float (numbered first t)
  numbered_free first (branch id from to kind text parts) free = (free.0, all_numbered_free first parts free.1)

  all_numbered_free : (first : ℕ) (ts : Trees) → AreFree is_float ts → AreFree is_float (all_numbered first ts)
  all_numbered_free first no_trees free = tt
  all_numbered_free first (more_trees t ts) free = (numbered_free first t free.0, all_numbered_free (first + node_count t) ts free.1)

-- COPIES

-- a spec with the copy of a list: the list before is written in it, or in a spec before it
uncompleted_free : (list : Trees) (spec : Tree) → IsWrittenFree (completed list spec) → IsWrittenFree spec
uncompleted_free list (branch id from to kind text no_trees) free = free
uncompleted_free list (branch id from to kind text (more_trees names no_trees)) free =
    λ is. ((free is).0, ((free is).1.0, tt))
uncompleted_free list (branch id from to kind text (more_trees names (more_trees t ts))) free = free

copy_free : (list : Trees) → AreFree is_float list → AreFree is_float (copy_if_any list)
copy_free no_trees free = tt
copy_free (more_trees t ts) free = ((refl, free), tt)

completed_free : (list : Trees) (spec : Tree) → AreFree is_float list → IsFree is_float spec → IsFree is_float (completed list spec)
completed_free list (branch id from to kind text no_trees) copied free = free
completed_free list (branch id from to kind text (more_trees names no_trees)) copied free =
    (free.0, (free.1.0, copy_free list copied))
completed_free list (branch id from to kind text (more_trees names (more_trees t ts))) copied free = free

behind_free : (list : Trees) (spec : Tree) → AreFree is_float list → IsFree is_float spec → AreFree is_float (list_behind list spec)
behind_free list (branch id from to kind text no_trees) copied free = copied
behind_free list (branch id from to kind text (more_trees names no_trees)) copied free = copied
behind_free list (branch id from to kind text (more_trees names (more_trees t ts))) copied free = free.1.1

abbrev AreFreeWhereWritten : Trees → Type 0
AreFreeWhereWritten ts = AreWrittenFree ts → AreFree is_float ts

by_group : (group : Bool) (specs others : Trees) → AreFreeWhereWritten specs → AreFreeWhereWritten others
    → AreFreeWhereWritten (if group then specs else others)
by_group true specs others of_specs of_others = of_specs
by_group false specs others of_specs of_others = of_others

mutual
  with_copies_free : (t : Tree) → IsFree is_copy t → IsWrittenFree (with_copies t) → IsFree is_float (with_copies t)
  with_copies_free (branch id from to kind text parts) copies free =
      let own = free copies.0 in
      let of_specs = specs_free no_trees parts tt copies.1 in
      let of_others = all_free parts copies.1 in
      (own.0, by_group (is_group kind) (specs_with_copies no_trees parts) (all_with_copies parts) of_specs of_others own.1)

  all_free : (ts : Trees) → AreFree is_copy ts → AreFreeWhereWritten (all_with_copies ts)
  all_free no_trees copies free = tt
  all_free (more_trees t ts) copies free = (with_copies_free t copies.0 free.0, all_free ts copies.1 free.1)

  specs_free : (list ts : Trees) → AreFree is_float list → AreFree is_copy ts → AreFreeWhereWritten (specs_with_copies list ts)
  specs_free list no_trees copied copies free = tt
  specs_free list (more_trees spec specs) copied copies free =
      let own = with_copies_free spec copies.0 (uncompleted_free list (with_copies spec) free.0) in (
        completed_free list (with_copies spec) copied own,
        specs_free (list_behind list (with_copies spec)) specs (behind_free list (with_copies spec) copied own) copies.1 free.1,
      )

-- FILES

pub file_float_free : (bytes : List ℕ) (first : ℕ) (tree : Tree) → IsFileOf bytes first tree → NoFloats tree → IsFree is_float tree
file_float_free bytes first tree is floats =
    let written : IsWrittenFree (numbered first (with_copies is.written)) = subst IsWrittenFree is.tree_is (written_free tree floats) in
    let copies = derived_copy_free bytes File is.tokens is.written is.derives in
    let free = with_copies_free is.written copies (unnumbered_free first (with_copies is.written) written) in
    subst (IsFree is_float) (sym is.tree_is) (numbered_free first (with_copies is.written) free)
