-- Components of types: where they stand among operands.
use Rattle.std.proofs.Common.{◌≡◌, cond, Bor, List, [], ◌∷◌, ◌++◌, Contains, refl, sym, ap, ◌∙◌, subst, drop, ⊎_elim}
use Rattle.std.specs.Prelude.{filter}
use Rattle.std.specs.List.{flat_map, zip}
use Rattle.go_tree.specs.declared.node.Node.{Node}
use Rattle.go_tree.specs.declared.node_kind.NodeKind.{NodeKind}
use Rattle.go_tree.specs.declared.node_kind.NodeKind.TheVariants.{ArrayType, ArrowExpr, ChanType, EmbeddedPointer, FuncType, InterfaceType, MapType, MethodElem, SliceType, StarExpr, StructType}
use Rattle.go_tree.specs.Tree.{Tree, kind_of, list_of, parts_of}
use Rattle.go_module.specs.Names.Inner.{inner_by, inner_of}
use Rattle.go_module.proofs.MemberLemmas.{cons_cases, contains_head, contains_none, contains_tail}
use Rattle.go_names.specs.Views.{trees_at}
use Rattle.go_operands.specs.Operands.{expressions_in, held_by, operands_from, operands_of}
use Rattle.go_operands.proofs.OperandLemmas.{by_operands, expressions_in-operands, operands-inner}
use Rattle.go_model.specs.Obligations.Obliged.{components_by, components_of, is_method_elem, types_of_methods}
use Rattle.go_model.proofs.FlatLemmas.{flat_cases, flat_contains}
use Rattle.go_obligations.specs.Owed.{types_of_elem}

-- LISTS

pub behind_first_tree : (nodes : List (Bor Node)) → trees_at (drop 1 nodes) ≡ drop 1 (trees_at nodes)
behind_first_tree [] = refl
behind_first_tree (node ∷ nodes) = refl

drop_within : {X : Type 0} (xs : List X) (x : X) → Contains (drop 1 xs) x → Contains xs x
drop_within [] x h = absurd (contains_none x h)
drop_within (y ∷ ys) x h = contains_tail y ys x h

pub second_within : {X Y : Type 0} (xs : List X) (ys : List Y) (p : X × Y) → Contains (zip xs ys) p → Contains ys p.1
second_within [] ys p h = absurd (contains_none p h)
second_within (x ∷ xs) [] p h = absurd (contains_none p h)
second_within {X} {Y} (x ∷ xs) (y ∷ ys) p h =
    ⊎_elim
    (λ (here : (x, y) ≡ p). contains_head y ys p.1 (ap (λ (q : X × Y). q.1) here))
    (λ (there : Contains (zip xs ys) p). contains_tail y ys p.1 (second_within xs ys p there))
    (cons_cases (x, y) (zip xs ys) p h)

-- INTERFACES

abbrev pub of_elem : Tree → List Tree
of_elem elem = types_of_elem (kind_of elem) elem

abbrev of_methods : List Tree → List Tree
of_methods elems = flat_map operands_of (filter (λ elem. is_method_elem (kind_of elem)) elems)

by_elem : (kind : NodeKind) (elem : Tree) (elems : List Tree) → of_methods elems ≡ flat_map of_elem elems
    → flat_map operands_of (cond (is_method_elem kind) (elem ∷ filter (λ elem. is_method_elem (kind_of elem)) elems) (filter (λ elem. is_method_elem (kind_of elem)) elems)) ≡ types_of_elem kind elem ++ flat_map of_elem elems
by_elem MethodElem elem elems rest = ap (λ types. operands_of elem ++ types) rest
by_elem kind elem elems rest = rest

elem_by_elem : (elems : List Tree) → of_methods elems ≡ flat_map of_elem elems
elem_by_elem [] = refl
elem_by_elem (elem ∷ elems) = by_elem (kind_of elem) elem elems (elem_by_elem elems)

pub methods_by_elem : (t : Tree) → types_of_methods t ≡ flat_map of_elem (list_of (parts_of t))
methods_by_elem t = elem_by_elem (list_of (parts_of t))

elem_held : (kind : NodeKind) (elem u : Tree) → Contains (types_of_elem kind elem) u → Contains (held_by kind elem) u
elem_held MethodElem elem u h = h
elem_held kind elem u h = absurd (contains_none u h)

method_operand : (t u : Tree) → kind_of t ≡ InterfaceType → Contains (types_of_methods t) u → Contains (operands_of t) u
method_operand t u is h =
    let found = flat_cases of_elem (list_of (parts_of t)) u (subst (λ (us : List Tree). Contains us u) (methods_by_elem t) h) in
    let held : Contains (operands_from InterfaceType found.0) u = elem_held (kind_of found.0) found.0 u found.2 in
    let all : Contains (flat_map (operands_from InterfaceType) (list_of (parts_of t))) u = flat_contains (operands_from InterfaceType) (list_of (parts_of t)) found.0 u found.1 held in
    let same : operands_of t ≡ flat_map (operands_from InterfaceType) (list_of (parts_of t)) =
    operands-inner t ∙ ap (λ (kind : NodeKind). flat_map (operands_from kind) (inner_by (λ u. u) (inner_of kind) (list_of (parts_of t)))) is in
    subst (λ (us : List Tree). Contains us u) (sym same) all

-- OPERANDS

component_by : (kind : NodeKind) (t u : Tree) → kind_of t ≡ kind → Contains (components_by kind t) u → Contains (operands_of t) u
component_by ArrayType t u is h = drop_within (operands_of t) u h
component_by InterfaceType t u is h = method_operand t u is h
component_by SliceType t u is h = h
component_by MapType t u is h = h
component_by ChanType t u is h = h
component_by ArrowExpr t u is h = h
component_by StarExpr t u is h = h
component_by EmbeddedPointer t u is h = h
component_by StructType t u is h = h
component_by FuncType t u is h = h
component_by kind t u is h = absurd (contains_none u h)

-- a component of a node is an operand of it
pub component_operand : (t u : Tree) → Contains (components_of t) u → Contains (operands_of t) u
component_operand t u h = component_by (kind_of t) t u refl h

-- a node is one of those in itself
pub self_in : (t : Tree) → Contains (expressions_in t) t
self_in t = subst (λ (us : List Tree). Contains us t) (sym (expressions_in-operands t)) (contains_head t (flat_map expressions_in (operands_of t)) t refl)

abbrev HasOperands : Tree → Type 0
HasOperands x = (t u : Tree) → Contains (expressions_in x) t → Contains (operands_of t) u → Contains (expressions_in x) u

has_operands : (x : Tree) → ((v : Tree) → Contains (operands_of x) v → HasOperands v) → HasOperands x
has_operands x inner t u h i =
    ⊎_elim
    (λ (here : x ≡ t). below u u (subst (λ (y : Tree). Contains (operands_of y) u) (sym here) i) (self_in u))
    (λ (there : Contains (flat_map expressions_in (operands_of x)) t).
    let v = flat_cases expressions_in (operands_of x) t there in
    below v.0 u v.1 (inner v.0 v.1 t u v.2 i))
    (cons_cases x (flat_map expressions_in (operands_of x)) t (subst (λ (us : List Tree). Contains us t) (expressions_in-operands x) h))
  where
    below : (v w : Tree) → Contains (operands_of x) v → Contains (expressions_in v) w → Contains (expressions_in x) w
    below v w j k =
        subst (λ (us : List Tree). Contains us w) (sym (expressions_in-operands x)) (contains_tail x (flat_map expressions_in (operands_of x)) w (flat_contains expressions_in (operands_of x) v w j k))

-- an operand of a node of an expression or a type is a node of it
pub operand_in : (x t u : Tree) → Contains (expressions_in x) t → Contains (operands_of t) u → Contains (expressions_in x) u
operand_in x = by_operands HasOperands has_operands x
