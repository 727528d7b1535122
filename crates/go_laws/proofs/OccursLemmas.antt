-- An identifier that is asked for a record occurs: by itself, or before a `.` behind which no name of a package stands.
use Rattle.std.proofs.Common.{◌≡◌, ℕ, true, false, Option, Some, None, List, [], ◌∷◌, ◌⊎◌, inl, inr, Contains, refl, sym, ap, ◌∙◌, subst}
use Rattle.std.specs.Prelude.{slice_get}
use Rattle.std.proofs.lemmas.Option.{same_Some}
use Rattle.go_tree.specs.declared.node_kind.NodeKind.TheVariants.{Name, SelectorExpr}
use Rattle.go_tree.specs.Tree.{Tree, Trees, branch, id_of, kind_of, more_trees, no_trees, start_of, text_of}
use Rattle.go_module.specs.declared.block.Occurrence.{Occurrence}
use Rattle.go_module.specs.Names.Occurrences.{names_in, occurrence, selecting, with_selected}
use Rattle.go_module.proofs.MemberLemmas.{contains_head, contains_none}
use Rattle.go_operands.specs.Operands.{operands_of}
use Rattle.go_operands.proofs.OperandLemmas.{by_operands}
use Rattle.go_constructs.specs.declared.meaning.Meaning.{Meaning}
use Rattle.go_constructs.specs.declared.meaning.Meaning.TheVariants.{AnyType, BasicType, Declared, DefinedType, Iota, Other, Predeclared, Truth}
use Rattle.go_constructs.specs.Name.{name}
use Rattle.go_constructs.specs.Selector.{selector}
use Rattle.go_model.specs.Outcomes.Walk.{many_operands}
use Rattle.go_judge.specs.Naming.{Naming}
use Rattle.go_constructs.specs.Meaning.{meaning_by}
use Rattle.go_model.proofs.FlatLemmas.{only_is}
use Rattle.go_laws.specs.BuiltTrees.{HasForm, IsBuilt, IsIdentifier, identifier, is_named}
use Rattle.go_laws.specs.Complete.{asked_in}
use Rattle.go_laws.proofs.AskedLemmas.{IsInside, asked_cases, tree_among}
use Rattle.go_laws.proofs.OperandNameLemmas.{operand_built, operand_names, self_expression}

-- WHICH OPERANDS OF NAMES ARE ASKED

-- none of an identifier
no_operand : (m : Meaning) (n : ℕ) → Contains (name m).operands n → ⊥
no_operand (Declared d) n h = contains_none n h
no_operand (DefinedType d) n h = contains_none n h
no_operand (BasicType d basic) n h = contains_none n h
no_operand (AnyType d) n h = contains_none n h
no_operand (Truth d truth) n h = contains_none n h
no_operand (Iota d (Some number)) n h = contains_none n h
no_operand (Iota d None) n h = contains_none n h
no_operand Predeclared n h = contains_none n h
no_operand Other n h = contains_none n h

-- what stands before a `.` only where what stands behind it denotes nothing
before_dot : (m : Meaning) (n : ℕ) → Contains (selector m).operands n → (m ≡ Other) × (0 ≡ n)
before_dot (Declared d) n h = absurd (contains_none n h)
before_dot (DefinedType d) n h = absurd (contains_none n h)
before_dot (BasicType d basic) n h = absurd (contains_none n h)
before_dot (AnyType d) n h = absurd (contains_none n h)
before_dot (Truth d truth) n h = absurd (contains_none n h)
before_dot (Iota d (Some number)) n h = absurd (contains_none n h)
before_dot (Iota d None) n h = absurd (contains_none n h)
before_dot Predeclared n h = absurd (contains_none n h)
before_dot Other n h = (refl, only_is 0 n h)

-- a node of a form that is known: a name, `x.f`, or neither
data IsLeaf : Tree → Type 0 where
  of_name : (id from to : ℕ) (text : List ℕ) (parts : Trees) → IsLeaf (branch id from to Name text parts)
  of_selector : (id from to : ℕ) (text : List ℕ) (x f : Tree) → IsIdentifier x → IsLeaf (branch id from to SelectorExpr text (more_trees x (more_trees f no_trees)))
  of_neither : (t : Tree) → is_named (kind_of t) ≡ false → IsLeaf t

leaf_or_neither : (t : Tree) → HasForm t (many_operands t) → IsLeaf t
leaf_or_neither (branch id from to Name text parts) form = of_name id from to text parts
leaf_or_neither (branch id from to SelectorExpr text no_trees) form = absurd form
leaf_or_neither (branch id from to SelectorExpr text (more_trees x no_trees)) form = absurd form
leaf_or_neither (branch id from to SelectorExpr text (more_trees x (more_trees f no_trees))) form = of_selector id from to text x f form.0
leaf_or_neither (branch id from to SelectorExpr text (more_trees x (more_trees f (more_trees t ts)))) form = absurd form
leaf_or_neither t form = of_neither t refl

module _ (naming : Naming) (file : ℕ) (told_at : Option ℕ) where
  -- before a `.`, and what stands behind it denotes nothing
  pub record IsBefore (occurrences : List Occurrence) (o : Occurrence) : Type 0 where
    pub selected : Tree
    pub among : Contains occurrences (selecting file told_at selected o)
    pub other : meaning_by naming (id_of selected) ≡ Other

  abbrev pub Occurs : List Occurrence → Occurrence → Type 0
  Occurs occurrences o = Contains occurrences o ⊎ IsBefore occurrences o

  occurs_within : (xs ys : List Occurrence) → ((o : Occurrence) → Contains xs o → Contains ys o) → (o : Occurrence) → Occurs xs o → Occurs ys o
  occurs_within xs ys all o (inl here) = inl (all o here)
  occurs_within xs ys all o (inr before) = inr (record { selected = before.selected; among = all (selecting file told_at before.selected o) before.among; other = before.other })

  abbrev itself : Tree → Occurrence
  itself s = occurrence file told_at (id_of s) (start_of s) (text_of s)

  abbrev Occurring : Tree → Tree → Type 0
  Occurring t s = Occurs (names_in file told_at t) (itself s)

  -- a name is asked alone
  name_alone : (id from to : ℕ) (text : List ℕ) (parts : Trees) (s : Tree) → Contains (asked_in naming (branch id from to Name text parts)) s → branch id from to Name text parts ≡ s
  name_alone id from to text parts s h = by_cases (asked_cases naming (branch id from to Name text parts) s h)
    where
      by_cases : (branch id from to Name text parts ≡ s) ⊎ IsInside naming (branch id from to Name text parts) s → branch id from to Name text parts ≡ s
      by_cases (inl same) = same
      by_cases (inr is) = absurd (no_operand (meaning_by naming id) is.place is.chosen)

  before_it : {x : Tree} → IsIdentifier x → (f s : Tree) → Contains (asked_in naming x) s → Contains (with_selected file told_at x f (names_in file told_at x)) (selecting file told_at f (itself s))
  before_it (identifier id from to text) f s h =
      let same = name_alone id from to text no_trees s h in
      contains_head (selecting file told_at f (occurrence file told_at id from text)) [] (selecting file told_at f (itself s)) (ap (λ (r : Tree). selecting file told_at f (itself r)) same)

  -- the operand of a selector is what stands before the `.`
  selected_operand : {x : Tree} → IsIdentifier x → (id from to : ℕ) (text : List ℕ) (f u : Tree) (n : ℕ) → 0 ≡ n
      → slice_get (operands_of (branch id from to SelectorExpr text (more_trees x (more_trees f no_trees)))) n ≡ Some u → x ≡ u
  selected_operand (identifier i a b name_text) id from to text f u n first at =
      same_Some (branch i a b Name name_text no_trees) u (ap (slice_get (branch i a b Name name_text no_trees ∷ [])) first ∙ at)

  abbrev AskedOccur : Tree → Type 0
  AskedOccur t = IsBuilt t → (s : Tree) → kind_of s ≡ Name → Contains (asked_in naming t) s → Occurring t s

  step : (t : Tree) → ((u : Tree) → Contains (operands_of t) u → AskedOccur u) → AskedOccur t
  step t each built s is h = by_leaf (leaf_or_neither t (built.forms t (self_expression t))) each built h
    where
      by_leaf : {v : Tree} → IsLeaf v → ((u : Tree) → Contains (operands_of v) u → AskedOccur u) → IsBuilt v → Contains (asked_in naming v) s → Occurring v s
      by_leaf (of_name id from to text parts) each built h =
          inl (contains_head (occurrence file told_at id from text) [] (itself s) (ap itself (name_alone id from to text parts s h)))
      by_leaf (of_selector id from to text x f leaf) each built h = by_cases (asked_cases naming (branch id from to SelectorExpr text (more_trees x (more_trees f no_trees))) s h)
        where
          by_cases : (branch id from to SelectorExpr text (more_trees x (more_trees f no_trees)) ≡ s) ⊎ IsInside naming (branch id from to SelectorExpr text (more_trees x (more_trees f no_trees))) s
              → Occurring (branch id from to SelectorExpr text (more_trees x (more_trees f no_trees))) s
          by_cases (inl same) = absurd (let never : SelectorExpr ≡ Name = ap kind_of same ∙ is in cc)
          by_cases (inr inside) =
              let place = before_dot (meaning_by naming (id_of f)) inside.place inside.chosen in
              let operand = selected_operand leaf id from to text f inside.operand inside.place place.1 inside.there in
              inr (record { selected = f; among = before_it leaf f s (subst (λ (u : Tree). Contains (asked_in naming u) s) (sym operand) inside.inside); other = place.0 })
      by_leaf (of_neither v plain) each built h = by_cases (asked_cases naming v s h)
        where
          by_cases : (v ≡ s) ⊎ IsInside naming v s → Occurring v s
          by_cases (inl same) = absurd (let never : false ≡ true = sym plain ∙ ap is_named (ap kind_of same ∙ is) in cc)
          by_cases (inr inside) =
              let among = tree_among (operands_of v) inside.place inside.operand inside.there in
              occurs_within (names_in file told_at inside.operand) (names_in file told_at v) (operand_names file told_at v built plain inside.operand among) (itself s)
              (each inside.operand among (operand_built v built plain inside.operand among) s is inside.inside)

  pub asked_occurs : (t : Tree) → IsBuilt t → (s : Tree) → kind_of s ≡ Name → Contains (asked_in naming t) s → Occurs (names_in file told_at t) (occurrence file told_at (id_of s) (start_of s) (text_of s))
  asked_occurs = by_operands AskedOccur step
