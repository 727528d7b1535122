-- The identifiers that occur in an operand of what is built occur in it; and its operands are built.
use Rattle.std.proofs.Common.{◌≡◌, ℕ, Bool, true, false, cond, Option, List, [], ◌∷◌, Contains, refl, sym, ap, ◌∙◌, subst, ⊎_elim}
use Rattle.std.specs.List.{flat_map}
use Rattle.go_tree.specs.declared.node_kind.NodeKind.{NodeKind}
use Rattle.go_tree.specs.declared.node_kind.NodeKind.TheVariants.{ArrowExpr, ChanType, Name, SelectorExpr}
use Rattle.go_tree.specs.Tree.{Tree, Trees, branch, kind_of, list_of, more_trees, no_trees, parts_of}
use Rattle.go_module.specs.declared.block.Occurrence.{Occurrence}
use Rattle.go_module.specs.Names.Inner.{inner_of, inner_parts}
use Rattle.go_module.specs.Names.Occurrences.{names_in, nodes_in}
use Rattle.go_module.proofs.MemberLemmas.{cons_cases, contains_head, contains_none, contains_tail}
use Rattle.go_names.proofs.WalkLemmas.{names_in-inner, nodes_in-inner}
use Rattle.go_operands.specs.Operands.{expressions_in, held_of, operands_from, operands_of, passes}
use Rattle.go_operands.proofs.OperandLemmas.{expressions_in-operands, operands-inner}
use Rattle.go_model.proofs.FlatLemmas.{flat_cases, flat_contains, only_is}
use Rattle.go_laws.specs.BuiltTrees.{IsBuilt, is_named}
use Rattle.go_laws.proofs.PickedLemmas.{picked_contains, picked_inner}

-- what holds of a node where it holds of its parts holds of all
module _ (P : Tree → Type 0) (step : (t : Tree) → ((part : Tree) → Contains (list_of (parts_of t)) part → P part) → P t) where
  mutual
    by_parts : (t : Tree) → P t
    by_parts (branch id from to kind text parts) = step (branch id from to kind text parts) (each_part parts)

    each_part : (ts : Trees) (part : Tree) → Contains (list_of ts) part → P part
    each_part no_trees part h = absurd (contains_none part h)
    each_part (more_trees t ts) part h =
        ⊎_elim
        (λ (here : t ≡ part). subst P here (by_parts t))
        (λ (there : Contains (list_of ts) part). each_part ts part there)
        (cons_cases t (list_of ts) part h)

pub inner_part : (t part : Tree) → Contains (inner_parts t) part → Contains (list_of (parts_of t)) part
inner_part t part h = picked_contains part (picked_inner (λ (u : Tree). u) (inner_of (kind_of t)) (list_of (parts_of t))) h

-- NODES

self_node : (t : Tree) → Contains (nodes_in t) t
self_node t = subst (λ (nodes : List Tree). Contains nodes t) (sym (nodes_in-inner t)) (contains_head t (flat_map nodes_in (inner_parts t)) t refl)

inner_node : (t part s : Tree) → Contains (inner_parts t) part → Contains (nodes_in part) s → Contains (nodes_in t) s
inner_node t part s among h =
    subst (λ (nodes : List Tree). Contains nodes s) (sym (nodes_in-inner t))
    (contains_tail t (flat_map nodes_in (inner_parts t)) s (flat_contains nodes_in (inner_parts t) part s among h))

-- NAMES AND SELECTORS ARE OPERANDS

abbrev pub AreOperands : Tree → Type 0
AreOperands t = (s part : Tree) → Contains (nodes_in t) s → Contains (inner_parts s) part → is_named (kind_of part) ≡ true → passes (kind_of s) (kind_of part) ≡ false

part_operands : (t part : Tree) → AreOperands t → Contains (inner_parts t) part → AreOperands part
part_operands t part are among s inner h = are s inner (inner_node t part s among h)

-- one that hands up what it holds is neither
passing : (t part : Tree) → AreOperands t → Contains (inner_parts t) part → passes (kind_of t) (kind_of part) ≡ true → is_named (kind_of part) ≡ false
passing t part are among hands = by_kind (is_named (kind_of part)) refl
  where
    by_kind : (b : Bool) → is_named (kind_of part) ≡ b → b ≡ false
    by_kind false is = refl
    by_kind true is = absurd (let never : true ≡ false = sym hands ∙ are t part (self_node t) among is in cc)

-- what a node has in its inner parts it has in its operands
module _ {X : Type 0} (f : Tree → List X) (by_inner : (t part : Tree) (x : X) → is_named (kind_of t) ≡ false → Contains (inner_parts t) part → Contains (f part) x → Contains (f t) x) where
  -- of what it holds, if it is no operand itself
  abbrev InHeld : Tree → Type 0
  InHeld t = AreOperands t → is_named (kind_of t) ≡ false → (u : Tree) → Contains (held_of t) u → (x : X) → Contains (f u) x → Contains (f t) x

  in_operands : (t : Tree) → ((part : Tree) → Contains (inner_parts t) part → InHeld part) → AreOperands t → is_named (kind_of t) ≡ false
      → (u : Tree) → Contains (operands_of t) u → (x : X) → Contains (f u) x → Contains (f t) x
  in_operands t each are plain u h x inside =
      let from = flat_cases (operands_from (kind_of t)) (inner_parts t) u (subst (λ (us : List Tree). Contains us u) (operands-inner t) h) in
      by_part from.0 from.1 (passes (kind_of t) (kind_of from.0)) refl from.2
    where
      by_part : (part : Tree) → Contains (inner_parts t) part → (b : Bool) → passes (kind_of t) (kind_of part) ≡ b → Contains (cond b (held_of part) (part ∷ [])) u → Contains (f t) x
      by_part part among true hands i =
          by_inner t part x plain among (each part among (part_operands t part are among) (passing t part are among hands) u i x inside)
      by_part part among false hands i =
          by_inner t part x plain among (subst (λ (v : Tree). Contains (f v) x) (sym (only_is part u i)) inside)

  in_held_at : (t : Tree) → ((part : Tree) → Contains (inner_parts t) part → InHeld part) → InHeld t
  in_held_at (branch id from to ArrowExpr text parts) each are plain u h x inside = by_inner (branch id from to ArrowExpr text parts) u x plain h inside
  in_held_at (branch id from to ChanType text parts) each are plain u h x inside = by_inner (branch id from to ChanType text parts) u x plain h inside
  in_held_at t each are plain u h x inside = in_operands t each are plain u h x inside

  in_held : (t : Tree) → InHeld t
  in_held = by_parts InHeld (λ t each. in_held_at t (λ part among. each part (inner_part t part among)))

  pub in_each_operand : (t : Tree) → AreOperands t → is_named (kind_of t) ≡ false → (u : Tree) → Contains (operands_of t) u → (x : X) → Contains (f u) x → Contains (f t) x
  in_each_operand t = in_operands t (λ part among. in_held part)

-- NODES, AND NAMES

pub self_expression : (t : Tree) → Contains (expressions_in t) t
self_expression t = subst (λ (nodes : List Tree). Contains nodes t) (sym (expressions_in-operands t)) (contains_head t (flat_map expressions_in (operands_of t)) t refl)

pub operand_built : (t : Tree) → IsBuilt t → is_named (kind_of t) ≡ false → (u : Tree) → Contains (operands_of t) u → IsBuilt u
operand_built t built plain u h = record {
  forms = λ s inside. built.forms s
      (subst (λ (nodes : List Tree). Contains nodes s) (sym (expressions_in-operands t))
      (contains_tail t (flat_map expressions_in (operands_of t)) s (flat_contains expressions_in (operands_of t) u s h inside)));
  operands = λ s part inside. built.operands s part (in_each_operand nodes_in (λ v inner x _ among there. inner_node v inner x among there) t built.operands plain u h s inside);
}

not_named : (t : Tree) (kind : NodeKind) → is_named kind ≡ true → is_named (kind_of t) ≡ false → kind_of t ≡ kind → ⊥
not_named t kind is plain same = let never : true ≡ false = sym is ∙ ap is_named (sym same) ∙ plain in cc

pub operand_names : (file : ℕ) (told_at : Option ℕ) (t : Tree) → IsBuilt t → is_named (kind_of t) ≡ false → (u : Tree) → Contains (operands_of t) u
    → (o : Occurrence) → Contains (names_in file told_at u) o → Contains (names_in file told_at t) o
operand_names file told_at t built plain = in_each_operand (names_in file told_at) inner_names t built.operands plain
  where
    inner_names : (v inner : Tree) (x : Occurrence) → is_named (kind_of v) ≡ false → Contains (inner_parts v) inner → Contains (names_in file told_at inner) x → Contains (names_in file told_at v) x
    inner_names v inner x no_name among there =
        subst (λ (os : List Occurrence). Contains os x) (sym (names_in-inner file told_at v (not_named v Name refl no_name) (not_named v SelectorExpr refl no_name)))
        (flat_contains (names_in file told_at) (inner_parts v) inner x among there)
