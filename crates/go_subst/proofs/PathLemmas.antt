-- What a path has behind one more named type.
use Rattle.std.proofs.Common.{◌≡◌, ℕ, ◌==◌, Bool, true, false, cond, not, ◌||◌, ◌&&◌, if◌then◌else◌, Option, Some, None, is_some, is_none, List, [], ◌∷◌, ◌++◌, map, reverse, refl, sym, ap, ◌∙◌, nat_eq}
use Rattle.std.specs.List.{list_any}
use Rattle.std.specs.Map.{keys_of, lookup}
use Rattle.std.specs.Option.{option_eq}
use Rattle.std.proofs.lemmas.List.{reverse-append}
use Rattle.std.proofs.lemmas.List.Sorted.{IsPermutation-reverse, list_any-IsPermutation}
use Rattle.indexmap.specs.IndexMap.{insert_entry}
use Rattle.go_judge.specs.Types.UnderlyingType as spec
use Rattle.go_judge.specs.Types.UnderlyingType.{same_origin, same_place}
use Rattle.go_subst.specs.Chains.{origin_as}
use Rattle.go_subst.specs.declared.path.Origin.{Origin}

abbrev Entries : Type 0
Entries = List (Origin × Unit {0})

-- as the table tells named types apart
abbrev pub same_key : Origin → Origin → Bool
same_key o e = nat_eq o.declaration.0 e.declaration.0 && option_eq nat_eq o.parameter e.parameter

abbrev pub origins : List Origin → List spec.Origin
origins os = map origin_as os

same_places : (i j : Option ℕ) → same_place i j ≡ option_eq nat_eq i j
same_places None None = refl
same_places None (Some j) = refl
same_places (Some i) None = refl
same_places (Some i) (Some j) = refl

same_keys : (o e : Origin) → same_origin (origin_as o) (origin_as e) ≡ same_key o e
same_keys o e = ap (λ b. (o.declaration.0 == e.declaration.0) && b) (same_places o.parameter e.parameter)

listed_here : (b c x : Bool) (v : Unit {0}) (o : Option (Unit {0})) → b ≡ c → x ≡ is_some o → (b || x) ≡ is_some (cond c (Some v) o)
listed_here true true x v o e h = refl
listed_here true false x v o e h = absurd (let never : true ≡ false = e in cc)
listed_here false true x v o e h = absurd (let never : false ≡ true = e in cc)
listed_here false false x v o e h = h

listed : (o : Origin) (es : Entries) → list_any (same_origin (origin_as o)) (origins (keys_of es)) ≡ is_some (lookup (same_key o) es)
listed o [] = refl
listed o (e ∷ es) =
    listed_here (same_origin (origin_as o) (origin_as e.0)) (same_key o e.0) (list_any (same_origin (origin_as o)) (origins (keys_of es))) e.1 (lookup (same_key o) es) (same_keys o e.0) (listed o es)

new_of : (fresh listed there : Bool) → there ≡ not fresh → listed ≡ there → fresh ≡ not listed
new_of true listed there e same = ap not (sym (same ∙ e))
new_of false listed there e same = ap not (sym (same ∙ e))

-- a named type is new where the table does not have it
pub new_to_path : (o : Origin) (es : Entries) (was : Option (Unit {0})) (fresh : Bool) → is_some was ≡ not fresh → was ≡ lookup (same_key o) es → fresh ≡ not (list_any (same_origin (origin_as o)) (reverse (origins (keys_of es))))
new_to_path o es was fresh e is =
    new_of fresh (list_any (same_origin (origin_as o)) (reverse (origins (keys_of es)))) (is_some was) e
    (sym (list_any-IsPermutation (same_origin (origin_as o)) (origins (keys_of es)) (reverse (origins (keys_of es))) (IsPermutation-reverse (origins (keys_of es)))) ∙ listed o es ∙ ap is_some (sym is))

-- the keys behind one more entry: a new one goes last
behind_first : (c : Bool) (o k : Origin) (ks more : List Origin) → more ≡ (if c then ks ++ (o ∷ []) else ks) → k ∷ more ≡ (if c then (k ∷ ks) ++ (o ∷ []) else k ∷ ks)
behind_first true o k ks more e = ap (λ xs. k ∷ xs) e
behind_first false o k ks more e = ap (λ xs. k ∷ xs) e

keys_behind : (o : Origin) (v : Unit {0}) (es : Entries) → keys_of (insert_entry same_key es o v) ≡ (if is_none (lookup (same_key o) es) then keys_of es ++ (o ∷ []) else keys_of es)
keys_behind o v [] = refl
keys_behind o v (e ∷ es) = go (same_key o e.0) (keys_behind o v es)
  where
    go : (b : Bool) → keys_of (insert_entry same_key es o v) ≡ (if is_none (lookup (same_key o) es) then keys_of es ++ (o ∷ []) else keys_of es)
        → keys_of (if b then (e.0, v) ∷ es else e ∷ insert_entry same_key es o v) ≡ (if is_none (cond b (Some e.1) (lookup (same_key o) es)) then (e.0 ∷ keys_of es) ++ (o ∷ []) else e.0 ∷ keys_of es)
    go true rest = refl
    go false rest = behind_first (is_none (lookup (same_key o) es)) o e.0 (keys_of es) (keys_of (insert_entry same_key es o v)) rest

last_origin : (o : Origin) (ks : List Origin) → reverse (origins (ks ++ (o ∷ []))) ≡ origin_as o ∷ reverse (origins ks)
last_origin o ks = ap reverse (origins_append ks) ∙ reverse-append (origins ks) (origin_as o ∷ [])
  where
    origins_append : (xs : List Origin) → origins (xs ++ (o ∷ [])) ≡ origins xs ++ (origin_as o ∷ [])
    origins_append [] = refl
    origins_append (x ∷ xs) = ap (λ ys. origin_as x ∷ ys) (origins_append xs)

path_chosen : (c : Bool) (o : Origin) (ks : List Origin) → reverse (origins (if c then ks ++ (o ∷ []) else ks)) ≡ (if c then origin_as o ∷ reverse (origins ks) else reverse (origins ks))
path_chosen true o ks = last_origin o ks
path_chosen false o ks = refl

none_of : (was : Option (Unit {0})) (fresh : Bool) → is_some was ≡ not fresh → is_none was ≡ fresh
none_of None true e = refl
none_of (Some v) false e = refl
none_of None false e = absurd (let never : false ≡ true = e in cc)
none_of (Some v) true e = absurd (let never : true ≡ false = e in cc)

pub path_behind : (o : Origin) (v : Unit {0}) (es more : Entries) (was : Option (Unit {0})) (fresh : Bool) → is_some was ≡ not fresh → was ≡ lookup (same_key o) es → more ≡ insert_entry same_key es o v
    → reverse (origins (keys_of more)) ≡ (if fresh then origin_as o ∷ reverse (origins (keys_of es)) else reverse (origins (keys_of es)))
path_behind o v es more was fresh e is entries =
    ap (λ xs. reverse (origins (keys_of xs))) entries
    ∙ ap (λ ks. reverse (origins ks)) (keys_behind o v es)
    ∙ path_chosen (is_none (lookup (same_key o) es)) o (keys_of es)
    ∙ ap (λ b. if b then origin_as o ∷ reverse (origins (keys_of es)) else reverse (origins (keys_of es))) (ap is_none (sym is) ∙ none_of was fresh e)
