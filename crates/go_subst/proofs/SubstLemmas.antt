-- Substitution in lists of parts.
use Rattle.std.proofs.Common.{◌≡◌, ℕ, List, [], ◌∷◌, map, refl, ap}
use Rattle.go_base.specs.declared.ids.ObjId.{ObjId}
use Rattle.go_term.specs.Types.{TypeData, parts_of, more_parts}
use Rattle.go_term.specs.Substitution.{subst, subst_all}

pub subst_parts : {A : Type 0} (from : List (ObjId × ℕ)) (to : List TypeData) (f : A → TypeData) (xs : List A) → subst_all from to (parts_of (map f xs)) ≡ parts_of (map (λ x. subst from to (f x)) xs)
subst_parts from to f [] = refl
subst_parts from to f (x ∷ xs) = ap (more_parts (subst from to (f x))) (subst_parts from to f xs)

-- the parts of a list that was made by substitution in each item of xs, which a call takes as ys
pub parts_put : {A : Type 0} (from : List (ObjId × ℕ)) (to : List TypeData) (view : A → TypeData) (xs ys made : List A) → ys ≡ xs
    → map view made ≡ map (λ x. subst from to (view x)) ys → parts_of (map view made) ≡ subst_all from to (parts_of (map view xs))
parts_put from to view xs ys made read put = rw (subst_parts, put, read) refl
