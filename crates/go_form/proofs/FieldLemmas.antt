-- The names and the type of a field.
use Rattle.std.proofs.Common.{◌≡◌, ◌+◌, ◌≤◌, ℕ, Bool, true, false, List, [], ◌∷◌, ◌++◌, ◌⊎◌, inl, inr, length, map, refl, sym, ap, ◌∙◌, arith}
use Rattle.std.specs.Prelude.{if◌then◌else◌}
use Rattle.std.proofs.lemmas.List.{append_assoc}
use Rattle.go_tree.specs.declared.node.Node.{Node}
use Rattle.go_tree.specs.Tree.{tree_of, trees_of, node_count, node_count_of_all}
use Rattle.go_form.specs.declared.role.Role.TheVariants.{AnyType, Identifier}
use Rattle.go_form.specs.Unbuilt.{ends_field, is_tag, unbuilt_as, unbuilt_behind_name, unbuilt_each}

if_true : (b : Bool) (xs ys : List ℕ) → b ≡ true → (if b then xs else ys) ≡ xs
if_true true xs ys e = refl
if_true false xs ys e = cc

if_false : (b : Bool) (xs ys : List ℕ) → b ≡ false → (if b then xs else ys) ≡ ys
if_false true xs ys e = cc
if_false false xs ys e = refl

abbrev Ends : List Node → Bool
Ends ns = ends_field (trees_of (map tree_of ns))

abbrev Behind : ℕ → List Node → List ℕ
Behind start ns = unbuilt_behind_name start (trees_of (map tree_of ns))

abbrev Apart : List Node → Node → List ℕ
Apart names type = unbuilt_each Identifier (trees_of (map tree_of names)) ++ unbuilt_as AnyType (tree_of type)

-- a field does not end before several parts, or before one that is no tag
ends_later : (ns : List Node) (n : Node) (ms : List Node) → Ends (n ∷ ms) ≡ false → Ends (ns ++ (n ∷ ms)) ≡ false
ends_later [] n ms e = e
ends_later (a ∷ []) n ms e = refl
ends_later (a ∷ (b ∷ ns)) n ms e = refl

-- behind the first name: names, and a type where the field ends behind it and not before
behind_is : (start : ℕ) (ns : List Node) (n : Node) (ms : List Node) → Ends ms ≡ true → (ns ≡ []) ⊎ (Ends (n ∷ ms) ≡ false) → Behind start (ns ++ (n ∷ ms)) ≡ Apart ns n
behind_is start [] n ms ends before = if_true (Ends ms) (unbuilt_as AnyType (tree_of n)) _ ends
behind_is start (m ∷ ns) n ms ends (inl empty) = cc
behind_is start (m ∷ ns) n ms ends (inr before) =
    if_false (Ends (ns ++ (n ∷ ms))) _ (unbuilt_as Identifier (tree_of m) ++ Behind start (ns ++ (n ∷ ms))) (ends_later ns n ms before)
    ∙ (ap (λ (l : List ℕ). unbuilt_as Identifier (tree_of m) ++ l) (behind_is start ns n ms ends (inr before))
    ∙ sym (append_assoc (unbuilt_as Identifier (tree_of m)) (unbuilt_each Identifier (trees_of (map tree_of ns))) (unbuilt_as AnyType (tree_of n))))

-- the type is the last, where this is no tag or stands alone
pub untagged_type : (start : ℕ) (ps ns : List Node) (n : Node) → ps ≡ ns ++ (n ∷ []) → is_tag (tree_of n) ≡ false → Behind start ps ≡ Apart ns n
untagged_type start ps ns n e fails = ap (Behind start) e ∙ behind_is start ns n [] refl (inr fails)

none_long : (ns : List Node) → length ns ≡ 0 → ns ≡ []
none_long [] e = refl
none_long (n ∷ ns) e = absurd (omega (arith, e))

pub lone_type : (start : ℕ) (ps ns : List Node) (n : Node) → ps ≡ ns ++ (n ∷ []) → length ns ≡ 0 → Behind start ps ≡ Apart ns n
lone_type start ps ns n e none = ap (Behind start) e ∙ behind_is start ns n [] refl (inl (none_long ns none))

-- with a tag behind it the last but one
pub tagged_type : (start : ℕ) (ps qs ns : List Node) (n tag : Node) → ps ≡ qs ++ (tag ∷ []) → qs ≡ ns ++ (n ∷ []) → is_tag (tree_of tag) ≡ true → Behind start ps ≡ Apart ns n
tagged_type start ps qs ns n tag e f holds =
    ap (Behind start) (e ∙ (ap (λ (l : List Node). l ++ (tag ∷ [])) f ∙ append_assoc ns (n ∷ []) (tag ∷ []))) ∙ behind_is start ns n (tag ∷ []) holds (inr refl)

-- SIZES

abbrev Size : List Node → ℕ
Size ns = node_count_of_all (trees_of (map tree_of ns))

append_size : (ns ms : List Node) → Size (ns ++ ms) ≡ Size ns + Size ms
append_size [] ms = omega arith
append_size (n ∷ ns) ms = let r = append_size ns ms in omega (arith, r)

last_size : (ps ns : List Node) (n : Node) → ps ≡ ns ++ (n ∷ []) → Size ps ≡ Size ns + node_count (tree_of n)
last_size ps ns n e = let r = append_size ns (n ∷ []) in let same = ap Size e in omega (arith, r, same)

pub before_within : (ps ns : List Node) (n : Node) → ps ≡ ns ++ (n ∷ []) → Size ns ≤ Size ps
before_within ps ns n e = let r = last_size ps ns n e in omega (arith, r)

pub last_within : (ps ns : List Node) (n : Node) → ps ≡ ns ++ (n ∷ []) → node_count (tree_of n) ≤ Size ps
last_within ps ns n e = let r = last_size ps ns n e in omega (arith, r)

pub names_within : (ps qs ns : List Node) (n tag : Node) → ps ≡ qs ++ (tag ∷ []) → qs ≡ ns ++ (n ∷ []) → Size ns ≤ Size ps
names_within ps qs ns n tag e f = let r = last_size ps qs tag e in let s = last_size qs ns n f in omega (arith, r, s)

pub type_within : (ps qs ns : List Node) (n tag : Node) → ps ≡ qs ++ (tag ∷ []) → qs ≡ ns ++ (n ∷ []) → node_count (tree_of n) ≤ Size ps
type_within ps qs ns n tag e f = let r = last_size ps qs tag e in let s = last_size qs ns n f in omega (arith, r, s)

pub ruleset field_lemmas = (untagged_type, lone_type, tagged_type, before_within, last_within, names_within, type_within)
