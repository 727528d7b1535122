-- A node is built where what its parts hand up is.
use Rattle.std.proofs.Common.{◌≡◌, Bool, true, false, cond, List, [], ◌∷◌, ◌⊎◌, inl, inr, Contains, sym, ◌∙◌, subst, ⊎_elim}
use Rattle.std.specs.List.{AllByRecursion, flat_map}
use Rattle.go_tree.specs.declared.node_kind.NodeKind.{NodeKind}
use Rattle.go_tree.specs.Tree.{Tree, kind_of}
use Rattle.go_module.specs.Names.Inner.{inner_parts}
use Rattle.go_module.specs.Names.Occurrences.{nodes_in}
use Rattle.go_module.proofs.MemberLemmas.{cons_cases, contains_none}
use Rattle.go_names.proofs.WalkLemmas.{nodes_in-inner}
use Rattle.go_operands.specs.Operands.{expressions_in, held_of, operands_from, operands_of, passes}
use Rattle.go_operands.proofs.OperandLemmas.{expressions_in-operands, operands-inner}
use Rattle.go_model.specs.Outcomes.Walk.{many_operands}
use Rattle.go_model.proofs.FlatLemmas.{flat_cases, only_is}
use Rattle.go_laws.specs.BuiltTrees.{HasForm, IsBuilt, is_named}
use Rattle.go_laws.proofs.OperandNameLemmas.{AreOperands}

pub each_of : {X : Type 0} (P : X → Type 0) (xs : List X) → AllByRecursion P xs → (x : X) → Contains xs x → P x
each_of P [] all x h = absurd (contains_none x h)
each_of P (y ∷ ys) all x h =
    ⊎_elim
    (λ (here : y ≡ x). subst P here all.0)
    (λ (there : Contains ys x). each_of P ys all.1 x there)
    (cons_cases y ys x h)

-- WHAT IS HANDED UP

-- each node of an expression or a type has a form that is known
abbrev pub Formed : Tree → Type 0
Formed t = (s : Tree) → Contains (expressions_in t) s → HasForm s (many_operands s)

abbrev pub AllFormed : List Tree → Type 0
AllFormed trees = (t : Tree) → Contains trees t → Formed t

-- what a part hands up to a node of this kind: itself, if a name or a selector; and so within it
pub record IsHanded (kind : NodeKind) (part : Tree) : Type 0 where
  pub formed : AllFormed (operands_from kind part)
  pub operands : AreOperands part
  pub named : is_named (kind_of part) ≡ true → passes kind (kind_of part) ≡ false

-- what holds others together
pub record IsHolding (t : Tree) : Type 0 where
  pub formed : AllFormed (held_of t)
  pub operands : AreOperands t
  pub plain : is_named (kind_of t) ≡ false

-- a part that is a name or a selector is an operand
abbrev IsOperandIfNamed : Tree → Tree → Type 0
IsOperandIfNamed t part = is_named (kind_of part) ≡ true → passes (kind_of t) (kind_of part) ≡ false

-- of each part in which nodes stand
abbrev pub AllHanded : Tree → Type 0
AllHanded t = (part : Tree) → Contains (inner_parts t) part → IsHanded (kind_of t) part

handed_by : (part : Tree) (b : Bool) → AllFormed (cond b (held_of part) (part ∷ [])) → (kind : NodeKind)
    → passes kind (kind_of part) ≡ b → AllFormed (operands_from kind part)
handed_by part b all kind is = subst (λ (c : Bool). AllFormed (cond c (held_of part) (part ∷ []))) (sym is) all

-- a part that is an operand, and one that holds others
pub handed_itself : (kind : NodeKind) (t : Tree) → passes kind (kind_of t) ≡ false → IsBuilt t → IsHanded kind t
handed_itself kind t stays built = record {
  formed = handed_by t false (λ u h. subst Formed (only_is t u h) built.forms) kind stays;
  operands = built.operands;
  named = λ named. stays;
}

pub handed_held : (kind : NodeKind) (t : Tree) → passes kind (kind_of t) ≡ true → IsHolding t → IsHanded kind t
handed_held kind t hands holding = record {
  formed = handed_by t true holding.formed kind hands;
  operands = holding.operands;
  named = λ named. absurd (let never : true ≡ false = sym named ∙ holding.plain in cc);
}

-- OF A NODE, BY ITS PARTS

pub operands_within : (t : Tree) → ((part : Tree) → Contains (inner_parts t) part → AreOperands part)
    → ((part : Tree) → Contains (inner_parts t) part → IsOperandIfNamed t part) → AreOperands t
operands_within t each named s part h =
    by_node (cons_cases t (flat_map nodes_in (inner_parts t)) s (subst (λ (nodes : List Tree). Contains nodes s) (nodes_in-inner t) h))
  where
    by_node : (t ≡ s) ⊎ Contains (flat_map nodes_in (inner_parts t)) s → Contains (inner_parts s) part → IsOperandIfNamed s part
    by_node (inl same) = subst (λ (v : Tree). Contains (inner_parts v) part → IsOperandIfNamed v part) same (named part)
    by_node (inr there) = let from = flat_cases nodes_in (inner_parts t) s there in each from.0 from.1 s part from.2

handed_within : (t : Tree) → AllHanded t → AreOperands t
handed_within t each = operands_within t (λ part h. (each part h).operands) (λ part h. (each part h).named)

handed_formed : (t : Tree) → AllHanded t → AllFormed (operands_of t)
handed_formed t each u h =
    let from = flat_cases (operands_from (kind_of t)) (inner_parts t) u (subst (λ (us : List Tree). Contains us u) (operands-inner t) h) in
    (each from.0 from.1).formed u from.2

pub built_by : (t : Tree) → HasForm t (many_operands t) → AllHanded t → IsBuilt t
built_by t form each = record { forms = forms; operands = handed_within t each }
  where
    by_operand : (s : Tree) → (t ≡ s) ⊎ Contains (flat_map expressions_in (operands_of t)) s → HasForm s (many_operands s)
    by_operand s (inl same) = subst (λ (v : Tree). HasForm v (many_operands v)) same form
    by_operand s (inr there) =
        let from = flat_cases expressions_in (operands_of t) s there in handed_formed t each from.0 from.1 s from.2

    forms : Formed t
    forms s h =
        by_operand s
        (cons_cases t (flat_map expressions_in (operands_of t)) s (subst (λ (nodes : List Tree). Contains nodes s) (expressions_in-operands t) h))

pub holding_by : (t : Tree) → held_of t ≡ operands_of t → is_named (kind_of t) ≡ false → AllHanded t → IsHolding t
holding_by t same plain each = record {
  formed = subst AllFormed (sym same) (handed_formed t each);
  operands = handed_within t each;
  plain = plain;
}
