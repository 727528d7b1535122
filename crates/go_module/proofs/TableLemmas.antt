-- Tables that pairs are put into one after another: what is looked up is what was put in.
use Rattle.std.proofs.Common.{◌≡◌, Bool, true, false, cond, Option, Some, None, List, [], ◌∷◌, ◌⊎◌, inl, inr, rules, arith, refl, sym, ap, ◌∙◌}
use Rattle.std.proofs.lemmas.Bool.Decides.{nat_tests}
use Rattle.std.specs.Prelude.{if◌then◌else◌}
use Rattle.std.specs.Option.{IsSome, IfSome, is_some}
use Rattle.std.specs.List.{Contains}
use Rattle.std.specs.Map.{lookup}
use Rattle.indexmap.specs.IndexMap.{insert_entry, insert_all}
use Rattle.go_tree.specs.declared.node.NodeId.{NodeId}
use Rattle.go_base.specs.declared.ids.ObjId.{ObjId}
use Rattle.go_module.specs.Scopes.{same_node, same_object}
use Rattle.go_module.proofs.MemberLemmas.{cons_cases, contains_head, contains_tail, contains_none}

module _ {K V : Type 0} (eq : K → K → Bool) (same : (x y : K) → eq x y ≡ true → x ≡ y) where
  -- the key that is asked for, where the pair takes the place of one with its key
  in_place : (b : Bool) (q k k0 : K) (w v x : V) (rest : Option V) → k ≡ k0 → eq q k0 ≡ b → cond b (Some w) rest ≡ Some v → (cond b (Some x) rest ≡ Some v) ⊎ ((q ≡ k) × (w ≡ v))
  in_place true q k k0 w v x rest at e found = inr (same q k0 e ∙ sym at, cc)
  in_place false q k k0 w v x rest at e found = inl found

  behind : (b : Bool) (x v : V) (rest more : Option V) (P : Type 0) → (more ≡ Some v → (rest ≡ Some v) ⊎ P) → cond b (Some x) more ≡ Some v → (cond b (Some x) rest ≡ Some v) ⊎ P
  behind true x v rest more P go_on found = inl found
  behind false x v rest more P go_on found = go_on found

  last_one : (b : Bool) (q k : K) (w v : V) → eq q k ≡ b → cond b (Some w) None ≡ Some v → (q ≡ k) × (w ≡ v)
  last_one true q k w v e found = (same q k e, cc)
  last_one false q k w v e found = cc

  found_by : (e : K × V) (es : List (K × V)) (k q : K) (w v : V) → (lookup (eq q) (insert_entry eq es k w) ≡ Some v → (lookup (eq q) es ≡ Some v) ⊎ ((q ≡ k) × (w ≡ v))) → (b : Bool) → eq k e.0 ≡ b → lookup (eq q) (if b then (e.0, w) ∷ es else e ∷ insert_entry eq es k w) ≡ Some v → (lookup (eq q) (e ∷ es) ≡ Some v) ⊎ ((q ≡ k) × (w ≡ v))
  found_by e es k q w v go_on true at found = in_place (eq q e.0) q k e.0 w v e.1 (lookup (eq q) es) (same k e.0 at) refl found
  found_by e es k q w v go_on false at found = behind (eq q e.0) e.1 v (lookup (eq q) es) (lookup (eq q) (insert_entry eq es k w)) ((q ≡ k) × (w ≡ v)) go_on found

  -- behind one more pair
  found_after : (es : List (K × V)) (k q : K) (w v : V) → lookup (eq q) (insert_entry eq es k w) ≡ Some v → (lookup (eq q) es ≡ Some v) ⊎ ((q ≡ k) × (w ≡ v))
  found_after [] k q w v found = inr (last_one (eq q k) q k w v refl found)
  found_after (e ∷ es) k q w v found = found_by e es k q w v (found_after es k q w v) (eq k e.0) refl found

  older_or_new : (es xs : List (K × V)) (x : K × V) (q : K) (v : V) → (lookup (eq q) es ≡ Some v) ⊎ ((q ≡ x.0) × (x.1 ≡ v)) → (lookup (eq q) es ≡ Some v) ⊎ Contains (x ∷ xs) (q, v)
  older_or_new es xs x q v (inl older) = inl older
  older_or_new es xs x q v (inr new) = inr (contains_head x xs (q, v) (λ i. (sym new.0 i, new.1 i)))

  before_or_later : (es xs : List (K × V)) (x : K × V) (q : K) (v : V) → (lookup (eq q) (insert_entry eq es x.0 x.1) ≡ Some v) ⊎ Contains xs (q, v) → (lookup (eq q) es ≡ Some v) ⊎ Contains (x ∷ xs) (q, v)
  before_or_later es xs x q v (inl before) = older_or_new es xs x q v (found_after es x.0 q x.1 v before)
  before_or_later es xs x q v (inr later) = inr (contains_tail x xs (q, v) later)

  pub found_in : (es xs : List (K × V)) (q : K) (v : V) → lookup (eq q) (insert_all eq es xs) ≡ Some v → (lookup (eq q) es ≡ Some v) ⊎ Contains xs (q, v)
  found_in es [] q v found = inl found
  found_in es (x ∷ xs) q v found = before_or_later es xs x q v (found_in (insert_entry eq es x.0 x.1) xs q v found)

module _ {K V : Type 0} (eq : K → K → Bool) (self : (x : K) → eq x x ≡ true) where
  kept_here : (b : Bool) (x y : V) (rest more : Option V) → (is_some rest ≡ true → is_some more ≡ true) → is_some (cond b (Some x) rest) ≡ true → is_some (cond b (Some y) more) ≡ true
  kept_here true x y rest more go_on has = refl
  kept_here false x y rest more go_on has = go_on has

  kept_by : (e : K × V) (es : List (K × V)) (k q : K) (w : V) → (is_some (lookup (eq q) es) ≡ true → is_some (lookup (eq q) (insert_entry eq es k w)) ≡ true) → (b : Bool) → is_some (lookup (eq q) (e ∷ es)) ≡ true → is_some (lookup (eq q) (if b then (e.0, w) ∷ es else e ∷ insert_entry eq es k w)) ≡ true
  kept_by e es k q w go_on true has = kept_here (eq q e.0) e.1 w (lookup (eq q) es) (lookup (eq q) es) (λ h. h) has
  kept_by e es k q w go_on false has = kept_here (eq q e.0) e.1 e.1 (lookup (eq q) es) (lookup (eq q) (insert_entry eq es k w)) go_on has

  -- a key stays as pairs are added
  kept_after : (es : List (K × V)) (k q : K) (w : V) → is_some (lookup (eq q) es) ≡ true → is_some (lookup (eq q) (insert_entry eq es k w)) ≡ true
  kept_after [] k q w has = cc
  kept_after (e ∷ es) k q w has = kept_by e es k q w (kept_after es k q w) (eq k e.0) has

  new_by : (e : K × V) (es : List (K × V)) (k : K) (w : V) → is_some (lookup (eq k) (insert_entry eq es k w)) ≡ true → (b : Bool) → eq k e.0 ≡ b → is_some (lookup (eq k) (if b then (e.0, w) ∷ es else e ∷ insert_entry eq es k w)) ≡ true
  new_by e es k w go_on true at = ap (λ b. is_some (cond b (Some w) (lookup (eq k) es))) at
  new_by e es k w go_on false at = ap (λ b. is_some (cond b (Some e.1) (lookup (eq k) (insert_entry eq es k w)))) at ∙ go_on

  -- the key of the new pair is there
  new_after : (es : List (K × V)) (k : K) (w : V) → is_some (lookup (eq k) (insert_entry eq es k w)) ≡ true
  new_after [] k w = ap (λ b. is_some (cond b (Some w) None)) (self k)
  new_after (e ∷ es) k w = new_by e es k w (new_after es k w) (eq k e.0) refl

  kept_in : (es xs : List (K × V)) (q : K) → is_some (lookup (eq q) es) ≡ true → is_some (lookup (eq q) (insert_all eq es xs)) ≡ true
  kept_in es [] q has = has
  kept_in es (x ∷ xs) q has = kept_in (insert_entry eq es x.0 x.1) xs q (kept_after es x.0 q x.1 has)

  present_by : (es xs : List (K × V)) (x : K × V) (q : K) (v : V) → (Contains xs (q, v) → is_some (lookup (eq q) (insert_all eq es (x ∷ xs))) ≡ true) → (x ≡ (q, v)) ⊎ Contains xs (q, v) → is_some (lookup (eq q) (insert_all eq es (x ∷ xs))) ≡ true
  present_by es xs x q v go_on (inl here) = kept_in (insert_entry eq es x.0 x.1) xs q (ap (λ k. is_some (lookup (eq k) (insert_entry eq es x.0 x.1))) (sym (ap (λ p. p.0) here)) ∙ new_after es x.0 x.1)
  present_by es xs x q v go_on (inr later) = go_on later

  pub present_in : (es xs : List (K × V)) (q : K) (v : V) → Contains xs (q, v) → is_some (lookup (eq q) (insert_all eq es xs)) ≡ true
  present_in es [] q v in_list = absurd (contains_none (q, v) in_list)
  present_in es (x ∷ xs) q v in_list = present_by es xs x q v (present_in (insert_entry eq es x.0 x.1) xs q v) (cons_cases x xs (q, v) in_list)

-- numbers of nodes and of objects
node_is : (a b : NodeId) → same_node a b ≡ true → a ≡ b
node_is a b e = let at : a.0 ≡ b.0 = grind (arith, nat_tests) in λ i. record { 0 = at i }

object_is : (a b : ObjId) → same_object a b ≡ true → a ≡ b
object_is a b e = let at : a.0 ≡ b.0 = grind (arith, nat_tests) in λ i. record { 0 = at i }

node_self : (a : NodeId) → same_node a a ≡ true
node_self a = grind (arith, nat_tests)

only_later : {P : Type 0} {V : Type 0} (v : V) → (None ≡ Some v) ⊎ P → P
only_later v (inl none) = cc
only_later v (inr later) = later

pub node_denotes : {V : Type 0} (es xs : List (NodeId × V)) (q : NodeId) (o : Option V) → es ≡ insert_all same_node [] xs → o ≡ lookup (same_node q) es → IfSome o (λ v. Contains xs (q, v))
node_denotes es xs q None table found = search rules
node_denotes es xs q (Some v) table found = only_later v (found_in same_node node_is [] xs q v (sym (ap (lookup (same_node q)) table) ∙ sym found))

is_there : {V : Type 0} (o : Option V) → is_some o ≡ true → IsSome o
is_there None has = cc
is_there (Some v) has = search rules

pub node_found : {V : Type 0} (es xs : List (NodeId × V)) (q : NodeId) (v : V) (o : Option V) → es ≡ insert_all same_node [] xs → o ≡ lookup (same_node q) es → Contains xs (q, v) → IsSome o
node_found es xs q v o table found in_list = is_there o (ap is_some (found ∙ ap (lookup (same_node q)) table) ∙ present_in same_node node_self [] xs q v in_list)

pub object_declared : {V : Type 0} (es xs : List (ObjId × V)) (q : ObjId) (v : V) → es ≡ insert_all same_object [] xs → lookup (same_object q) es ≡ Some v → Contains xs (q, v)
object_declared es xs q v table found = only_later v (found_in same_object object_is [] xs q v (sym (ap (lookup (same_object q)) table) ∙ found))
