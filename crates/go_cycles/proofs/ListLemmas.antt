-- Lists: of which items a list is made, and what a map by numbers has behind one more entry.
use Rattle.std.proofs.Common.{◌≡◌, ℕ, ◌+◌, Bool, true, false, cond, Option, Some, List, [], ◌∷◌, ◌++◌, ◌⊎◌, Contains, inl, inr, refl, sym, ap, ◌∙◌, subst, arith}
use Rattle.std.specs.Prelude.{if◌then◌else◌}
use Rattle.std.specs.List.{flat_map}
use Rattle.std.specs.Map.{lookup}
use Rattle.std.proofs.lemmas.Bool.Decides.{nat_tests}
use Rattle.std.proofs.lemmas.List.Elements.{Contains-append_cases, Contains-append_left, Contains-append_right}
use Rattle.indexmap.specs.IndexMap.{insert_entry}
use Rattle.go_base.specs.declared.ids.ObjId.{ObjId}
use Rattle.go_module.specs.Modules.Module.{FileData}
use Rattle.go_module.specs.Names.Declarations.{specs_from, specs_in_file}
use Rattle.go_module.specs.Scopes.{same_object}
use Rattle.go_module.proofs.MemberLemmas.{cons_cases, contains_head, contains_none, contains_tail}
use Rattle.go_names.specs.Views.{all_specs, specs_by_file}

pub flat_cases : {X Y : Type 0} (f : X → List Y) (xs : List X) (y : Y) → Contains (flat_map f xs) y → (x : X) × Contains xs x × Contains (f x) y
flat_cases {X = X} f [] y h = absurd (contains_none y h)
flat_cases {X = X} f (x ∷ xs) y h = by_either (Contains-append_cases (f x) (flat_map f xs) y h) (flat_cases f xs y)
  where
    by_either : Contains (f x) y ⊎ Contains (flat_map f xs) y → (Contains (flat_map f xs) y → (z : X) × Contains xs z × Contains (f z) y) → (z : X) × Contains (x ∷ xs) z × Contains (f z) y
    by_either (inl here) later = (x, contains_head x xs x refl, here)
    by_either (inr there) later = let found = later there in (found.0, contains_tail x xs found.0 found.1, found.2)

pub flat_contains : {X Y : Type 0} (f : X → List Y) (xs : List X) (x : X) (y : Y) → Contains xs x → Contains (f x) y → Contains (flat_map f xs) y
flat_contains f [] x y h i = absurd (contains_none x h)
flat_contains f (z ∷ xs) x y h i = by_cases (cons_cases z xs x h) (flat_contains f xs x y)
  where
    by_cases : (z ≡ x) ⊎ Contains xs x → (Contains xs x → Contains (f x) y → Contains (flat_map f xs) y) → Contains (flat_map f (z ∷ xs)) y
    by_cases (inl same) later = Contains-append_left (f z) (flat_map f xs) y (subst (λ w. Contains (f w) y) (sym same) i)
    by_cases (inr there) later = Contains-append_right (f z) (flat_map f xs) y (later there i)

-- the specs of all files, in one list
pub all_from : (file : ℕ) (files : List FileData) → all_specs (specs_by_file file files) ≡ specs_from file files
all_from file [] = refl
all_from file (f ∷ files) = ap (λ rest. specs_in_file file f.tree ++ rest) (all_from (file + 1) files)

pub same_is : (a b : ObjId) → same_object a b ≡ true → a ≡ b
same_is a b e = let at : a.0 ≡ b.0 = grind (arith, nat_tests) in λ i. record { 0 = at i }

is_same : (a b : ObjId) → a ≡ b → same_object a b ≡ true
is_same a b e = let at : a.0 ≡ b.0 = ap (λ (d : ObjId). d.0) e in grind (arith, nat_tests)

replaced : {V : Type 0} (b c : Bool) (v w : V) (rest : Option V) → b ≡ c → cond b (Some v) rest ≡ cond c (Some v) (cond b (Some w) rest)
replaced true c v w rest e = ap (λ x. cond x (Some v) (Some w)) e
replaced false c v w rest e = ap (λ x. cond x (Some v) rest) e

apart : {V : Type 0} (b c : Bool) (v w : V) (rest : Option V) → (b ≡ true → c ≡ true → ⊥) → cond b (Some w) (cond c (Some v) rest) ≡ cond c (Some v) (cond b (Some w) rest)
apart true true v w rest no_both = absurd (no_both refl refl)
apart true false v w rest no_both = refl
apart false c v w rest no_both = refl

-- what is found behind one more entry
pub found_behind : {V : Type 0} (q : ObjId) (es : List (ObjId × V)) (k : ObjId) (v : V) → lookup (same_object q) (insert_entry same_object es k v) ≡ cond (same_object q k) (Some v) (lookup (same_object q) es)
found_behind q [] k v = refl
found_behind {V} q (e ∷ es) k v = by_key (same_object k e.0) refl (found_behind q es k v)
  where
    by_key : (b : Bool) → same_object k e.0 ≡ b → lookup (same_object q) (insert_entry same_object es k v) ≡ cond (same_object q k) (Some v) (lookup (same_object q) es)
        → lookup (same_object q) (if b then (e.0, v) ∷ es else e ∷ insert_entry same_object es k v) ≡ cond (same_object q k) (Some v) (cond (same_object q e.0) (Some e.1) (lookup (same_object q) es))
    by_key true at rest = replaced (same_object q e.0) (same_object q k) v e.1 (lookup (same_object q) es) (ap (same_object q) (sym (same_is k e.0 at)))
    by_key false at rest =
        ap (λ o. cond (same_object q e.0) (Some e.1) o) rest
        ∙ apart (same_object q e.0) (same_object q k) v e.1 (lookup (same_object q) es)
        (λ one other. let both = is_same k e.0 (sym (same_is q k other) ∙ same_is q e.0 one) in cc (both, at))
