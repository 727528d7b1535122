-- Where each number is that of one node, the table of uses has at the number of an identifier what it denotes.
use Rattle.std.proofs.Common.{◌≡◌, ℕ, ◌+◌, ◌<◌, Option, Some, None, List, [], ◌∷◌, ◌++◌, map, Contains, refl, sym, ap, ◌∙◌, subst, rules}
use Rattle.std.specs.Prelude.{IsSome}
use Rattle.std.specs.List.{AllPairs, flat_map}
use Rattle.std.specs.Map.{lookup}
use Rattle.std.specs.Option.{option_map_or, IfSome}
use Rattle.std.proofs.lemmas.Grind.{flat_map-append}
use Rattle.std.proofs.lemmas.List.{append-nil, map-append}
use Rattle.go_base.specs.declared.ids.ObjId.{ObjId}
use Rattle.go_tree.specs.declared.node.NodeId.{NodeId}
use Rattle.go_tree.specs.declared.node_kind.NodeKind.{NodeKind}
use Rattle.go_tree.specs.declared.node_kind.NodeKind.TheVariants.{AliasSpec, ConstCopy, ConstDecl, ConstGroup, ExprList, Name, SelectorExpr, TypeDecl, TypeGroup, TypeSpec, VarDecl, VarGroup}
use Rattle.go_tree.specs.Tree.{Tree, branch, Trees, no_trees, more_trees, id_of, list_of}
use Rattle.go_module.specs.declared.block.Occurrence.{Occurrence}
use Rattle.go_module.specs.declared.block.Region.{Region}
use Rattle.go_module.specs.declared.block.Selected.{Selected}
use Rattle.go_module.specs.declared.object.Object.{Object}
use Rattle.go_module.specs.declared.object.ObjKind.{ObjKind}
use Rattle.go_module.specs.declared.object.ObjKind.TheVariants.{Alias, Defined}
use Rattle.go_module.specs.Modules.Module.{FileData, ModuleData, PackageData}
use Rattle.go_module.specs.Names.Declarations.{Spec, behind_names, const_spec, list_behind, specs_in, type_before, type_spec, type_spec_as, types_behind, values_behind, var_spec}
use Rattle.go_module.specs.Names.Imports.{PackageNames, known_in}
use Rattle.go_module.specs.Names.Inner.{inner_of}
use Rattle.go_module.specs.Names.Occurrences.{found_in, names_in, names_in_parts, names_of_each, occurrences_in_file, with_selected}
use Rattle.go_module.specs.Names.PackageBlock.{object_id}
use Rattle.go_module.specs.Names.Regions.{regions_of, resolution}
use Rattle.go_module.specs.Names.Rules.OccurrenceRules.{denoted_package}
use Rattle.go_module.specs.Names.Tables.{Member, member_of, members_at, occurrences_from, uses_at, uses_of}
use Rattle.go_module.specs.Scopes.{same_node}
use Rattle.go_module.proofs.TableLemmas.{node_denotes, node_found}
use Rattle.go_model.specs.Naming.{uses_table}
use Rattle.go_laws.specs.NodeNumbers.{nodes_by_end, nodes_by_end_among, nodes_in_files, numbers_in_files}
use Rattle.go_laws.proofs.PickedLemmas.{Ascending, Picked, none, one_numbered, pairs_ascend, picked_ascend, picked_behind, picked_both, picked_flat, picked_front, picked_inner, picked_self, picked_through}

-- the numbers of the nodes of a tree, a node behind its parts
abbrev mutual
  ends : Tree → List ℕ
  ends (branch id from to kind text parts) = ends_among parts ++ id ∷ []

  ends_among : Trees → List ℕ
  ends_among no_trees = []
  ends_among (more_trees t ts) = ends t ++ ends_among ts

mutual
  ends_are : (t : Tree) → map id_of (nodes_by_end t) ≡ ends t
  ends_are (branch id from to kind text parts) = map-append id_of (nodes_by_end_among parts) (branch id from to kind text parts ∷ []) ∙ ap (λ ns. ns ++ id ∷ []) (among_are parts)

  among_are : (ts : Trees) → map id_of (nodes_by_end_among ts) ≡ ends_among ts
  among_are no_trees = refl
  among_are (more_trees t ts) = map-append id_of (nodes_by_end t) (nodes_by_end_among ts) ∙ (λ i. ends_are t i ++ among_are ts i)

own_end : (t : Tree) → Picked (id_of t ∷ []) (ends t)
own_end (branch id from to kind text parts) = picked_behind (ends_among parts) (picked_self (id ∷ []))

-- the numbers of an occurrence: its own, and that of the name behind its `.`
abbrev selected_numbers : Option Selected → List ℕ
selected_numbers None = []
selected_numbers (Some s) = s.id.0 ∷ []

abbrev numbers_at : Occurrence → List ℕ
numbers_at o = o.id.0 ∷ selected_numbers o.selected

abbrev numbers_in : List Occurrence → List ℕ
numbers_in occurrences = flat_map numbers_at occurrences

both_numbers : (xs ys : List Occurrence) (us vs : List ℕ) → Picked (numbers_in xs) us → Picked (numbers_in ys) vs → Picked (numbers_in (xs ++ ys)) (us ++ vs)
both_numbers xs ys us vs p q = subst (λ (ns : List ℕ). Picked ns (us ++ vs)) (sym (flat_map-append numbers_at xs ys)) (picked_both p q)

found_numbers : (kind : NodeKind) (parts : List (Tree × List Occurrence)) → Picked (numbers_in (found_in kind parts)) (numbers_in (flat_map (λ part. part.1) parts))
found_numbers kind parts = picked_flat numbers_at (picked_flat (λ (part : Tree × List Occurrence). part.1) (picked_inner (λ (part : Tree × List Occurrence). part.0) (inner_of kind) parts))

-- those of the identifiers that occur in a tree are picked from those of its nodes
module _ (file : ℕ) (told_at : Option ℕ) where
  selecting_numbers : (id : ℕ) (x f : Tree) → Picked (numbers_in (names_in file told_at x)) (ends x) → Picked (numbers_in (with_selected file told_at x f (names_in file told_at x))) ((ends x ++ (ends f ++ [])) ++ id ∷ [])
  selecting_numbers id (branch own from to Name text parts) f p =
      picked_front (id ∷ []) (picked_both (picked_behind (ends_among parts) (picked_self (own ∷ []))) (picked_front [] (own_end f)))
  selecting_numbers id (branch own from to kind text parts) f p = picked_front (id ∷ []) (picked_front (ends f ++ []) p)

  mutual
    tree_numbers : (t : Tree) → Picked (numbers_in (names_in file told_at t)) (ends t)
    tree_numbers (branch id from to Name text parts) = picked_behind (ends_among parts) (picked_self (id ∷ []))
    tree_numbers (branch id from to SelectorExpr text (more_trees x (more_trees f no_trees))) = selecting_numbers id x f (tree_numbers x)
    tree_numbers (branch id from to kind text parts) = picked_front (id ∷ []) (picked_through (parts_numbers parts) (found_numbers kind (names_of_each file told_at parts)))

    parts_numbers : (ts : Trees) → Picked (numbers_in (flat_map (λ part. part.1) (names_of_each file told_at ts))) (ends_among ts)
    parts_numbers no_trees = none
    parts_numbers (more_trees t ts) = both_numbers (names_in file told_at t) (flat_map (λ part. part.1) (names_of_each file told_at ts)) (ends t) (ends_among ts) (tree_numbers t) (parts_numbers ts)

  list_numbers : (ts : Trees) → Picked (numbers_in (flat_map (names_in file told_at) (list_of ts))) (ends_among ts)
  list_numbers no_trees = none
  list_numbers (more_trees t ts) = both_numbers (names_in file told_at t) (flat_map (names_in file told_at) (list_of ts)) (ends t) (ends_among ts) (tree_numbers t) (list_numbers ts)

  -- what stands behind the names of a spec, or its copy
  abbrev occurs_behind : List Tree → List Occurrence
  occurs_behind parts = flat_map (names_in file told_at) (types_behind parts ++ values_behind parts)

  in_list : (id : ℕ) (ts : Trees) → Picked (numbers_in (flat_map (names_in file told_at) (list_of ts))) ((ends_among ts ++ id ∷ []) ++ [])
  in_list id ts = picked_front [] (picked_front (id ∷ []) (list_numbers ts))

  behind_numbers : (ts : Trees) → Picked (numbers_in (occurs_behind (list_of ts))) (ends_among ts)
  behind_numbers no_trees = none
  behind_numbers (more_trees (branch id from to kind text parts) no_trees) = in_list id parts
  behind_numbers (more_trees type (more_trees (branch id from to kind text parts) no_trees)) =
      both_numbers (names_in file told_at type) (flat_map (names_in file told_at) (list_of parts)) (ends type) ((ends_among parts ++ id ∷ []) ++ []) (tree_numbers type) (in_list id parts)
  behind_numbers (more_trees a (more_trees b (more_trees c ts))) = none

  names_numbers : (ts : Trees) → Picked (numbers_in (occurs_behind (behind_names (list_of ts)))) (ends_among ts)
  names_numbers no_trees = none
  names_numbers (more_trees (branch id from to ConstCopy text parts) no_trees) = picked_front [] (picked_front (id ∷ []) (behind_numbers parts))
  names_numbers (more_trees (branch id from to ConstCopy text parts) (more_trees b ts)) = behind_numbers (more_trees (branch id from to ConstCopy text parts) (more_trees b ts))
  names_numbers (more_trees (branch id from to kind text parts) ts) = behind_numbers (more_trees (branch id from to kind text parts) ts)

  -- what stands behind the names of variables
  variables_numbers : (ts : Trees) → Picked (numbers_in (flat_map (names_in file told_at) (type_before (list_of ts) ++ list_behind (list_of ts)))) (ends_among ts)
  variables_numbers no_trees = none
  variables_numbers (more_trees (branch id from to ExprList text parts) no_trees) = in_list id parts
  variables_numbers (more_trees (branch id from to kind text parts) no_trees) =
      both_numbers (names_in file told_at (branch id from to kind text parts)) [] (ends (branch id from to kind text parts)) [] (tree_numbers (branch id from to kind text parts)) none
  variables_numbers (more_trees type (more_trees (branch id from to kind text parts) no_trees)) =
      both_numbers (names_in file told_at type) (flat_map (names_in file told_at) (list_of parts)) (ends type) ((ends_among parts ++ id ∷ []) ++ []) (tree_numbers type) (in_list id parts)
  variables_numbers (more_trees type (more_trees b (more_trees c ts))) =
      both_numbers (names_in file told_at type) [] (ends type) (ends_among (more_trees b (more_trees c ts))) (tree_numbers type) none

-- of a spec
const_numbers : (file : ℕ) (spec : Tree) → Picked (numbers_in (names_in_parts (const_spec file spec))) (ends spec)
const_numbers file (branch id from to kind text no_trees) = none
const_numbers file (branch id from to kind text (more_trees names rest)) =
    let spec = const_spec file (branch id from to kind text (more_trees names rest)) in
    picked_front (id ∷ []) (picked_behind (ends names) (names_numbers file spec.told_at rest))

var_numbers : (file : ℕ) (spec : Tree) → Picked (numbers_in (names_in_parts (var_spec file spec))) (ends spec)
var_numbers file (branch id from to kind text no_trees) = none
var_numbers file (branch id from to kind text (more_trees names rest)) = picked_front (id ∷ []) (picked_behind (ends names) (variables_numbers file None rest))

typed_numbers : (kind : ObjKind) (file : ℕ) (node : Tree) (parts : Trees) → Picked (numbers_in (names_in_parts (type_spec_as kind file node parts))) (ends_among parts)
typed_numbers kind file node no_trees = none
typed_numbers kind file node (more_trees name rest) =
    picked_behind (ends name) (subst (λ (xs : List Tree). Picked (numbers_in (flat_map (names_in file None) xs)) (ends_among rest)) (sym (append-nil (list_of rest))) (list_numbers file None rest))

one_spec_numbers : (spec : Spec) (ns : List ℕ) → Picked (numbers_in (names_in_parts spec)) ns → Picked (numbers_in (flat_map names_in_parts (spec ∷ []))) ns
one_spec_numbers spec ns p = subst (λ (os : List Occurrence). Picked (numbers_in os) ns) (sym (append-nil (names_in_parts spec))) p

type_numbers : (file : ℕ) (t : Tree) → Picked (numbers_in (flat_map names_in_parts (type_spec file t))) (ends t)
type_numbers file (branch id from to TypeSpec text parts) =
    let node = branch id from to TypeSpec text parts in
    one_spec_numbers (type_spec_as Defined file node parts) (ends node) (picked_front (id ∷ []) (typed_numbers Defined file node parts))
type_numbers file (branch id from to AliasSpec text parts) =
    let node = branch id from to AliasSpec text parts in
    one_spec_numbers (type_spec_as Alias file node parts) (ends node) (picked_front (id ∷ []) (typed_numbers Alias file node parts))
type_numbers file (branch id from to kind text parts) = none

-- of one spec for each node, and of several
each_numbers : (make : Tree → Spec) → ((t : Tree) → Picked (numbers_in (names_in_parts (make t))) (ends t)) → (nodes : Trees) → Picked (numbers_in (flat_map names_in_parts (map make (list_of nodes)))) (ends_among nodes)
each_numbers make each no_trees = none
each_numbers make each (more_trees t nodes) =
    both_numbers (names_in_parts (make t)) (flat_map names_in_parts (map make (list_of nodes))) (ends t) (ends_among nodes) (each t) (each_numbers make each nodes)

all_numbers : (make : Tree → List Spec) → ((t : Tree) → Picked (numbers_in (flat_map names_in_parts (make t))) (ends t)) → (nodes : Trees) → Picked (numbers_in (flat_map names_in_parts (flat_map make (list_of nodes)))) (ends_among nodes)
all_numbers make each no_trees = none
all_numbers make each (more_trees t nodes) =
    let rest = flat_map make (list_of nodes) in
    subst (λ (os : List Occurrence). Picked (numbers_in os) (ends t ++ ends_among nodes)) (sym (flat_map-append names_in_parts (make t) rest))
    (both_numbers (flat_map names_in_parts (make t)) (flat_map names_in_parts rest) (ends t) (ends_among nodes) (each t) (all_numbers make each nodes))

declaration_numbers : (file : ℕ) (d : Tree) → Picked (numbers_in (flat_map names_in_parts (specs_in file d))) (ends d)
declaration_numbers file (branch id from to ConstDecl text parts) = picked_front (id ∷ []) (each_numbers (const_spec file) (const_numbers file) parts)
declaration_numbers file (branch id from to ConstGroup text parts) = picked_front (id ∷ []) (each_numbers (const_spec file) (const_numbers file) parts)
declaration_numbers file (branch id from to VarDecl text parts) = picked_front (id ∷ []) (each_numbers (var_spec file) (var_numbers file) parts)
declaration_numbers file (branch id from to VarGroup text parts) = picked_front (id ∷ []) (each_numbers (var_spec file) (var_numbers file) parts)
declaration_numbers file (branch id from to TypeDecl text parts) = picked_front (id ∷ []) (all_numbers (type_spec file) (type_numbers file) parts)
declaration_numbers file (branch id from to TypeGroup text parts) = picked_front (id ∷ []) (all_numbers (type_spec file) (type_numbers file) parts)
declaration_numbers file (branch id from to kind text parts) = none

file_numbers : (file : ℕ) (t : Tree) → Picked (numbers_in (occurrences_in_file file t)) (ends t)
file_numbers file (branch id from to kind text parts) = picked_front (id ∷ []) (all_numbers (specs_in file) (declaration_numbers file) parts)

files_numbers : (file : ℕ) (files : List FileData) → Picked (numbers_in (occurrences_from file files)) (numbers_in_files files)
files_numbers file [] = none
files_numbers file (f ∷ files) =
    subst (λ (ns : List ℕ). Picked (numbers_in (occurrences_from file (f ∷ files))) ns) (sym (map-append id_of (nodes_by_end f.tree) (nodes_in_files files)))
    (both_numbers (occurrences_in_file file f.tree) (occurrences_from (file + 1) files) (map id_of (nodes_by_end f.tree)) (numbers_in_files files)
    (subst (λ (ns : List ℕ). Picked (numbers_in (occurrences_in_file file f.tree)) ns) (sym (ends_are f.tree)) (file_numbers file f.tree))
    (files_numbers (file + 1) files))

-- and those of uses from those of occurrences
abbrev use_number : NodeId × ObjId → ℕ
use_number entry = entry.0.0

own_number : (o : Occurrence) (r : Option Region) → Picked (map use_number (option_map_or {U = List (NodeId × ObjId)} (λ (x : Region). (o.id, object_id x.object) ∷ []) r [])) (o.id.0 ∷ [])
own_number o None = none
own_number o (Some r) = picked_self (o.id.0 ∷ [])

abbrev member_use : Member → NodeId × ObjId
member_use member = (member.id, object_id member.object)

member_number : (s : Selected) (d : Option Object) → Picked (map use_number (map member_use (option_map_or {U = List Member} (λ (object : Object). record { id = s.id; object = object } ∷ []) d []))) (s.id.0 ∷ [])
member_number s None = none
member_number s (Some object) = picked_self (s.id.0 ∷ [])

module _ (known : ℕ → PackageNames) where
  members_number : (place : Option ℕ) (selected : Option Selected) → Picked (map use_number (map member_use (member_of known place selected))) (selected_numbers selected)
  members_number (Some q) (Some s) = member_number s ((known q).exported s.name)
  members_number (Some q) None = none
  members_number None selected = none

  module _ (regions : List Region) where
    use_numbers : (o : Occurrence) → Picked (map use_number (uses_at known regions o)) (numbers_at o)
    use_numbers o =
        let own = option_map_or {U = List (NodeId × ObjId)} (λ (x : Region). (o.id, object_id x.object) ∷ []) (resolution regions o) [] in
        let members = map member_use (members_at known regions o) in
        subst (λ (ns : List ℕ). Picked ns (numbers_at o)) (sym (map-append use_number own members))
        (picked_both (own_number o (resolution regions o)) (members_number (denoted_package regions o) o.selected))

    uses_numbers : (occurrences : List Occurrence) → Picked (map use_number (flat_map (uses_at known regions) occurrences)) (numbers_in occurrences)
    uses_numbers [] = none
    uses_numbers (o ∷ occurrences) =
        subst (λ (ns : List ℕ). Picked ns (numbers_at o ++ numbers_in occurrences)) (sym (map-append use_number (uses_at known regions o) (flat_map (uses_at known regions) occurrences)))
        (picked_both (use_numbers o) (uses_numbers occurrences))

-- so what stands in the table is what is denoted
found_by : (uses : List (NodeId × ObjId)) (id : NodeId) (d : ObjId) (o : Option ObjId) → Ascending (map use_number uses) → Contains uses (id, d) → IfSome o (λ e. Contains uses (id, e)) → IsSome o → o ≡ Some d
found_by uses id d None a here has some = absurd (search (rules, some))
found_by uses id d (Some e) a here has some = ap (λ (u : NodeId × ObjId). Some u.1) (one_numbered use_number uses (id, e) (id, d) a has here refl)

pub use_found : (m : ModuleData) (k : ℕ) (p : PackageData) → AllPairs (λ (a b : ℕ). a < b) (numbers_in_files p.files) → (id : NodeId) (d : ObjId) → Contains (uses_of (known_in m) k p) (id, d) → lookup (same_node id) (uses_table m k p) ≡ Some d
use_found m k p once id d here =
    let uses = uses_of (known_in m) k p in
    let picked : Picked (map use_number uses) (numbers_in_files p.files) = picked_through (files_numbers 0 p.files) (uses_numbers (known_in m) (regions_of (known_in m) k p) (occurrences_from 0 p.files)) in
    let ascends = picked_ascend picked (pairs_ascend (numbers_in_files p.files) once) in
    found_by uses id d (lookup (same_node id) (uses_table m k p)) ascends here
    (node_denotes (uses_table m k p) uses id (lookup (same_node id) (uses_table m k p)) refl refl)
    (node_found (uses_table m k p) uses id d (lookup (same_node id) (uses_table m k p)) refl refl here)
