-- What a map by the numbers of objects or of nodes has behind one more entry.
use Rattle.std.proofs.Common.{◌≡◌, ℕ, Bool, true, false, cond, Option, Some, List, [], ◌∷◌, refl, sym, ap, ◌∙◌, arith}
use Rattle.std.specs.Prelude.{◌==◌, if◌then◌else◌}
use Rattle.std.specs.Map.{lookup}
use Rattle.std.specs.Option.{option_map}
use Rattle.std.proofs.lemmas.Bool.Decides.{nat_tests}
use Rattle.indexmap.specs.IndexMap.{insert_entry}
use Rattle.go_base.specs.declared.ids.ObjId.{ObjId}
use Rattle.go_tree.specs.declared.node.NodeId.{NodeId}
use Rattle.go_module.specs.Scopes.{same_node, same_object}

replaced : {V : Type 0} (b c : Bool) (v w : V) (rest : Option V) → b ≡ c → cond b (Some v) rest ≡ cond c (Some v) (cond b (Some w) rest)
replaced true c v w rest e = ap (λ x. cond x (Some v) (Some w)) e
replaced false c v w rest e = ap (λ x. cond x (Some v) rest) e

apart : {V : Type 0} (b c : Bool) (v w : V) (rest : Option V) → (b ≡ true → c ≡ true → ⊥) → cond b (Some w) (cond c (Some v) rest) ≡ cond c (Some v) (cond b (Some w) rest)
apart true true v w rest no_both = absurd (no_both refl refl)
apart true false v w rest no_both = refl
apart false c v w rest no_both = refl

-- of keys that are the same where they are equal
module _ {K V : Type 0} (same : K → K → Bool) (same_is : (a b : K) → same a b ≡ true → a ≡ b) (is_same : (a b : K) → a ≡ b → same a b ≡ true) (q : K) where
  found_among : (es : List (K × V)) (k : K) (v : V) → lookup (same q) (insert_entry same es k v) ≡ cond (same q k) (Some v) (lookup (same q) es)
  found_among [] k v = refl
  found_among (e ∷ es) k v = by_key (same k e.0) refl (found_among es k v)
    where
      by_key : (b : Bool) → same k e.0 ≡ b → lookup (same q) (insert_entry same es k v) ≡ cond (same q k) (Some v) (lookup (same q) es)
          → lookup (same q) (if b then (e.0, v) ∷ es else e ∷ insert_entry same es k v) ≡ cond (same q k) (Some v) (cond (same q e.0) (Some e.1) (lookup (same q) es))
      by_key true at rest = replaced (same q e.0) (same q k) v e.1 (lookup (same q) es) (ap (same q) (sym (same_is k e.0 at)))
      by_key false at rest =
          ap (λ o. cond (same q e.0) (Some e.1) o) rest
          ∙ apart (same q e.0) (same q k) v e.1 (lookup (same q) es)
          (λ one other. let both = is_same k e.0 (sym (same_is q k other) ∙ same_is q e.0 one) in cc (both, at))

pub same_is : (a b : ObjId) → same_object a b ≡ true → a ≡ b
same_is a b e = let at : a.0 ≡ b.0 = grind (arith, nat_tests) in λ i. record { 0 = at i }

pub is_same : (a b : ObjId) → a ≡ b → same_object a b ≡ true
is_same a b e = let at : a.0 ≡ b.0 = ap (λ (d : ObjId). d.0) e in grind (arith, nat_tests)

same_node_is : (a b : NodeId) → same_node a b ≡ true → a ≡ b
same_node_is a b e = let at : a.0 ≡ b.0 = grind (arith, nat_tests) in λ i. record { 0 = at i }

is_same_node : (a b : NodeId) → a ≡ b → same_node a b ≡ true
is_same_node a b e = let at : a.0 ≡ b.0 = ap (λ (n : NodeId). n.0) e in grind (arith, nat_tests)

-- what is found behind one more entry
pub found_behind : {V : Type 0} (q : ObjId) (es : List (ObjId × V)) (k : ObjId) (v : V) → lookup (same_object q) (insert_entry same_object es k v) ≡ cond (same_object q k) (Some v) (lookup (same_object q) es)
found_behind q es k v = found_among same_object same_is is_same q es k v

-- and by the number
by_test : {V : Type 0} (b c : Bool) (v : V) (rest : Option V) → b ≡ c → cond b (Some v) rest ≡ (if c then Some v else rest)
by_test b true v rest e = ap (λ x. cond x (Some v) rest) e
by_test b false v rest e = ap (λ x. cond x (Some v) rest) e

pub entry_behind : {V : Type 0} (es : List (ObjId × V)) (k : ObjId) (v : V) (e : ℕ)
    → lookup (same_object (record { 0 = e })) (insert_entry same_object es k v) ≡ (if k.0 == e then Some v else lookup (same_object (record { 0 = e })) es)
entry_behind es k v e =
    let q : ObjId = record { 0 = e } in
    let same : same_object q k ≡ (k.0 == e) = grind (arith, nat_tests) in
    found_behind q es k v ∙ by_test (same_object q k) (k.0 == e) v (lookup (same_object q) es) same

pub entry_behind_node : {V : Type 0} (es : List (NodeId × V)) (k : NodeId) (v : V) (e : ℕ)
    → lookup (same_node (record { 0 = e })) (insert_entry same_node es k v) ≡ (if k.0 == e then Some v else lookup (same_node (record { 0 = e })) es)
entry_behind_node es k v e =
    let q : NodeId = record { 0 = e } in
    let same : same_node q k ≡ (k.0 == e) = grind (arith, nat_tests) in
    found_among same_node same_node_is is_same_node q es k v ∙ by_test (same_node q k) (k.0 == e) v (lookup (same_node q) es) same

-- what is made of one of two
pub chosen : {V W : Type 0} (f : V → W) (b : Bool) (v : V) (rest : Option V) → option_map f (if b then Some v else rest) ≡ (if b then Some (f v) else option_map f rest)
chosen f true v rest = refl
chosen f false v rest = refl
