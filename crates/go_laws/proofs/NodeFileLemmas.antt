-- Each node of an expression of a package is a node of the file in which the expression stands.
use Rattle.std.proofs.Common.{◌≡◌, ℕ, List, [], ◌∷◌, ◌++◌, ◌⊎◌, inl, inr, Contains, refl, sym, subst, ⊎_elim}
use Rattle.std.proofs.lemmas.List.Elements.{Contains-append_cases, Contains-append_left, Contains-append_right, Contains-push}
use Rattle.go_tree.specs.declared.node_kind.NodeKind.TheVariants.{ConstCopy, ExprList}
use Rattle.go_tree.specs.Tree.{Tree, Trees, branch, list_of, more_trees, no_trees, parts_of}
use Rattle.go_module.specs.Modules.Module.{FileData, ModuleData, PackageData}
use Rattle.go_module.specs.Names.Declarations.{Spec, behind_names, list_behind, specs_in, specs_in_file, specs_of, type_before, types_behind, values_behind}
use Rattle.go_module.specs.Names.Inner.{inner_by, inner_of}
use Rattle.go_module.specs.Names.Occurrences.{found_in, nodes_in, nodes_of_each}
use Rattle.go_operands.specs.Operands.{expressions_in, expressions_in_parts}
use Rattle.go_operands.proofs.OperandLemmas.{expressions_within}
use Rattle.go_model.specs.Outcomes.Walked.{NodesAreNumbered, nodes_of}
use Rattle.go_module.specs.NodeParts.{all_but_first}
use Rattle.go_module.proofs.MemberLemmas.{cons_cases, contains_head, contains_none, contains_tail}
use Rattle.go_laws.specs.NodeNumbers.{NodeNumbersAscend, nodes_by_end, nodes_by_end_among}
use Rattle.go_laws.proofs.FileLemmas.{IsSpecOf, file_of_spec, of_constants, of_type, of_variables, spec_is}
use Rattle.go_model.proofs.FlatLemmas.{flat_cases, only_is}
use Rattle.go_laws.proofs.ListLemmas.{in_front}
use Rattle.go_laws.proofs.NodeNumberLemmas.{one_node}
use Rattle.go_laws.proofs.PickedLemmas.{picked_contains, picked_inner}

pub self_by_end : (t : Tree) → Contains (nodes_by_end t) t
self_by_end (branch id from to kind text parts) = Contains-push (nodes_by_end_among parts) (branch id from to kind text parts)

among_parts : (ts : Trees) (t s : Tree) → Contains (list_of ts) t → Contains (nodes_by_end t) s → Contains (nodes_by_end_among ts) s
among_parts no_trees t s h i = absurd (contains_none t h)
among_parts (more_trees u ts) t s h i = by_cases (cons_cases u (list_of ts) t h) (λ there. among_parts ts t s there i)
  where
    by_cases : (u ≡ t) ⊎ Contains (list_of ts) t → (Contains (list_of ts) t → Contains (nodes_by_end_among ts) s) → Contains (nodes_by_end u ++ nodes_by_end_among ts) s
    by_cases (inl here) later = Contains-append_left (nodes_by_end u) (nodes_by_end_among ts) s (subst (λ (v : Tree). Contains (nodes_by_end v) s) (sym here) i)
    by_cases (inr there) later = Contains-append_right (nodes_by_end u) (nodes_by_end_among ts) s (later there)

-- a tree all of whose nodes are nodes of another
abbrev pub IsUnder : Tree → Tree → Type 0
IsUnder top t = (s : Tree) → Contains (nodes_by_end t) s → Contains (nodes_by_end top) s

pub part_under : (top t part : Tree) → IsUnder top t → Contains (list_of (parts_of t)) part → IsUnder top part
part_under top (branch id from to kind text parts) part under h s i =
    under s (Contains-append_left (nodes_by_end_among parts) (branch id from to kind text parts ∷ []) s (among_parts parts part s h i))

-- the nodes inside an expression are nodes of it
mutual
  pub inside : (t s : Tree) → Contains (nodes_in t) s → Contains (nodes_by_end t) s
  inside (branch id from to kind text parts) s h =
      ⊎_elim
      (λ (here : branch id from to kind text parts ≡ s). subst (λ (u : Tree). Contains (nodes_by_end (branch id from to kind text parts)) u) here (self_by_end (branch id from to kind text parts)))
      (λ (there : Contains (found_in kind (nodes_of_each parts)) s).
      let from_part = flat_cases (λ (part : Tree × List Tree). part.1) (inner_by (λ (part : Tree × List Tree). part.0) (inner_of kind) (nodes_of_each parts)) s there in
      let part = picked_contains from_part.0 (picked_inner (λ (part : Tree × List Tree). part.0) (inner_of kind) (nodes_of_each parts)) from_part.1 in
      Contains-append_left (nodes_by_end_among parts) (branch id from to kind text parts ∷ []) s (inside_each parts from_part.0 part s from_part.2))
      (cons_cases (branch id from to kind text parts) (found_in kind (nodes_of_each parts)) s h)

  inside_each : (ts : Trees) (part : Tree × List Tree) → Contains (nodes_of_each ts) part → (s : Tree) → Contains part.1 s → Contains (nodes_by_end_among ts) s
  inside_each no_trees part h s i = absurd (contains_none part h)
  inside_each (more_trees t ts) part h s i =
      ⊎_elim
      (λ (here : (t, nodes_in t) ≡ part).
      Contains-append_left (nodes_by_end t) (nodes_by_end_among ts) s (inside t s (subst (λ (x : Tree × List Tree). Contains x.1 s) (sym here) i)))
      (λ (there : Contains (nodes_of_each ts) part). Contains-append_right (nodes_by_end t) (nodes_by_end_among ts) s (inside_each ts part there s i))
      (cons_cases (t, nodes_in t) (nodes_of_each ts) part h)

-- the type and the expressions of a spec are under it
module _ (top : Tree) where
  abbrev AllUnder : List Tree → Type 0
  AllUnder xs = (x : Tree) → Contains xs x → IsUnder top x

  copied_under : (c : Tree) → AllUnder (c ∷ []) → AllUnder (list_of (parts_of c))
  copied_under c under x h = part_under top c x (under c (contains_head c [] c refl)) h

  behind_under : (xs : List Tree) → AllUnder xs → AllUnder (behind_names xs)
  behind_under (branch id from to ConstCopy text parts ∷ []) under = copied_under (branch id from to ConstCopy text parts) under
  behind_under xs under = under

  values_under : (xs : List Tree) → AllUnder xs → AllUnder (values_behind xs)
  values_under [] under x h = absurd (contains_none x h)
  values_under (l ∷ []) under x h = part_under top l x (under l (contains_head l [] l refl)) h
  values_under (t ∷ (l ∷ [])) under x h = part_under top l x (under l (contains_tail t (l ∷ []) l (contains_head l [] l refl))) h
  values_under (t ∷ (l ∷ (u ∷ us))) under x h = absurd (contains_none x h)

  types_under : (xs : List Tree) → AllUnder xs → AllUnder (types_behind xs)
  types_under [] under x h = absurd (contains_none x h)
  types_under (l ∷ []) under x h = absurd (contains_none x h)
  types_under (t ∷ (l ∷ [])) under x h = under x (subst (λ (u : Tree). Contains (t ∷ (l ∷ [])) u) (only_is t x h) (contains_head t (l ∷ []) t refl))
  types_under (t ∷ (l ∷ (u ∷ us))) under x h = absurd (contains_none x h)

  -- so those of variables
  type_before_under : (xs : List Tree) → AllUnder xs → AllUnder (type_before xs)
  type_before_under [] under x h = absurd (contains_none x h)
  type_before_under (branch id from to ExprList text parts ∷ []) under x h = absurd (contains_none x h)
  type_before_under (branch id from to kind text parts ∷ []) under x h = under x h
  type_before_under (t ∷ (u ∷ us)) under x h = under x (contains_head t (u ∷ us) x (only_is t x h))

  list_behind_under : (xs : List Tree) → AllUnder xs → AllUnder (list_behind xs)
  list_behind_under [] under x h = absurd (contains_none x h)
  list_behind_under (branch id from to ExprList text parts ∷ []) under x h =
      let l = branch id from to ExprList text parts in
      part_under top l x (under l (contains_head l [] l refl)) h
  list_behind_under (branch id from to kind text parts ∷ []) under x h = absurd (contains_none x h)
  list_behind_under (t ∷ (l ∷ [])) under x h = part_under top l x (under l (contains_tail t (l ∷ []) l (contains_head l [] l refl))) h
  list_behind_under (t ∷ (l ∷ (u ∷ us))) under x h = absurd (contains_none x h)

rest_there : (ts : Trees) (x : Tree) → Contains (all_but_first ts) x → Contains (list_of ts) x
rest_there no_trees x h = h
rest_there (more_trees t ts) x h = contains_tail t (list_of ts) x h

both_under : (top : Tree) (types values : List Tree) → AllUnder top types → AllUnder top values → AllUnder top (types ++ values)
both_under top types values type value x h =
    ⊎_elim (λ (here : Contains types x). type x here) (λ (there : Contains values x). value x there) (Contains-append_cases types values x h)

behind_first_under : (top node : Tree) → IsUnder top node → AllUnder top (all_but_first (parts_of node))
behind_first_under top node under x h = part_under top node x under (rest_there (parts_of node) x h)

spec_under : (top node : Tree) → IsUnder top node → (file : ℕ) (spec : Spec) → IsSpecOf file node spec → AllUnder top (spec.types ++ spec.values)
spec_under top node under file spec of_constants =
    let behind = behind_names (all_but_first (parts_of node)) in
    let all = behind_under top (all_but_first (parts_of node)) (behind_first_under top node under) in
    both_under top (types_behind behind) (values_behind behind) (types_under top behind all) (values_under top behind all)
spec_under top node under file spec of_variables =
    let behind = all_but_first (parts_of node) in
    let all = behind_first_under top node under in
    both_under top (type_before behind) (list_behind behind) (type_before_under top behind all) (list_behind_under top behind all)
spec_under top node under file spec (of_type kind) = λ x h. behind_first_under top node under x (in_front (all_but_first (parts_of node)) x h)

-- the type and the expressions of a spec of a file are under its tree
in_file : (file : ℕ) (tree : Tree) (spec : Spec) → Contains (specs_in_file file tree) spec → (t : Tree) → Contains (spec.types ++ spec.values) t → IsUnder tree t
in_file file tree spec h t part =
    let declaration = flat_cases (specs_in file) (list_of (parts_of tree)) spec h in
    let node = spec_is file declaration.0 spec declaration.2 in
    let under = part_under tree declaration.0 node.node (part_under tree tree declaration.0 (λ s i. i) declaration.1) node.among in
    spec_under tree node.node under file spec node.is t part

-- the file of a type or an expression of a package
pub record IsInFile (files : List FileData) (t : Tree) : Type 0 where
  pub file : FileData
  pub among : Contains files file
  pub under : IsUnder file.tree t

pub file_of_part : (p : PackageData) (spec : Spec) → Contains (specs_of p) spec → (t : Tree) → Contains (spec.types ++ spec.values) t → IsInFile p.files t
file_of_part p spec h t part =
    let from = file_of_spec 0 p.files spec h in
    record { file = from.1; among = from.2; under = in_file from.0 from.1.tree spec from.3 t part }

-- each node of a type or an expression is a node of one of its files
node_there : (p : PackageData) (s : Tree) → Contains (nodes_of p) s → (f : FileData) × Contains p.files f × Contains (nodes_by_end f.tree) s
node_there p s h =
    let spec = flat_cases expressions_in_parts (specs_of p) s h in
    let part = flat_cases expressions_in (spec.0.types ++ spec.0.values) s spec.2 in
    let there = file_of_part p spec.0 spec.1 part.0 part.1 in
    (there.file, there.among, there.under s (inside part.0 s (expressions_within part.0 s part.2)))

-- and no two of these have one number
pub nodes_are_numbered : (m : ModuleData) → NodeNumbersAscend m → NodesAreNumbered m
nodes_are_numbered m up k p at s t in_s in_t same =
    let one = node_there p s in_s in
    let other = node_there p t in_t in
    one_node m up k p at one.0 other.0 one.1 other.1 s t one.2 other.2 same
