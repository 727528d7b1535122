-- Lists of parts, counted and compared one beside another.
use Rattle.std.proofs.Common.{◌≡◌, ◌==◌, ◌&&◌, Bool, true, false, List, [], ◌∷◌, map, length, refl, sym, ap, ◌∙◌, eq-eqb}
use Rattle.std.proofs.lemmas.Bool.{ne_eqb}
use Rattle.std.proofs.Math.Dec.{eqb-suc-zero, eqb-zero-suc, eqb-suc-suc}
use Rattle.std.specs.List.{list_all, zip}
use Rattle.go_term.specs.Types.{TypeData, parts_of}
use Rattle.go_term.specs.declared.term.Term.{Term}
use Rattle.go_same.specs.declared.layer.Homes.{Homes}
use Rattle.go_same.specs.Layers.{hole, same_heads, all_same_heads}

pub all_same_heads-count : (homes : Homes) (ts us : List Term) → all_same_heads homes (parts_of (map hole ts)) (parts_of (map hole us)) ≡ (length ts == length us)
all_same_heads-count homes [] [] = refl
all_same_heads-count homes [] (u ∷ us) = sym (eqb-zero-suc (length us))
all_same_heads-count homes (t ∷ ts) [] = sym (eqb-suc-zero (length ts))
all_same_heads-count homes (t ∷ ts) (u ∷ us) = all_same_heads-count homes ts us ∙ sym (eqb-suc-suc (length ts) (length us))

swap : (a b c : Bool) → (a && (b && c)) ≡ (b && (a && c))
swap true b c = refl
swap false true c = refl
swap false false c = refl

pub all_same_heads-zip : {A : Type 0} (homes : Homes) (view : A → TypeData) (xs ys : List A)
    → all_same_heads homes (parts_of (map view xs)) (parts_of (map view ys)) ≡ ((length xs == length ys) && list_all (λ p. same_heads homes (view p.0) (view p.1)) (zip xs ys))
all_same_heads-zip homes view [] [] = refl
all_same_heads-zip homes view [] (y ∷ ys) = ap (λ b. b && true) (sym (eqb-zero-suc (length ys)))
all_same_heads-zip homes view (x ∷ xs) [] = ap (λ b. b && true) (sym (eqb-suc-zero (length xs)))
all_same_heads-zip homes view (x ∷ xs) (y ∷ ys) =
    let here = same_heads homes (view x) (view y) in
    let rest = list_all (λ p. same_heads homes (view p.0) (view p.1)) (zip xs ys) in
    ap (λ b. here && b) (all_same_heads-zip homes view xs ys) ∙ swap here (length xs == length ys) rest
    ∙ ap (λ b. b && (here && rest)) (sym (eqb-suc-suc (length xs) (length ys)))

pub same_as-zip : {A : Type 0} (homes : Homes) (view : A → TypeData) (xs ys : List A) (r : Bool) → length xs ≡ length ys
    → r ≡ list_all (λ p. same_heads homes (view p.0) (view p.1)) (zip xs ys) → r ≡ all_same_heads homes (parts_of (map view xs)) (parts_of (map view ys))
same_as-zip homes view xs ys r long e =
    e ∙ ap (λ b. b && list_all (λ p. same_heads homes (view p.0) (view p.1)) (zip xs ys)) (sym (eq-eqb (length xs) (length ys) long)) ∙ sym (all_same_heads-zip homes view xs ys)

pub other_count : {A : Type 0} (homes : Homes) (view : A → TypeData) (xs ys : List A) → (length xs ≡ length ys → ⊥)
    → (length xs == length ys) ≡ all_same_heads homes (parts_of (map view xs)) (parts_of (map view ys))
other_count homes view xs ys other =
    let no = ne_eqb (length xs) (length ys) other in
    no ∙ ap (λ b. b && list_all (λ p. same_heads homes (view p.0) (view p.1)) (zip xs ys)) (sym no) ∙ sym (all_same_heads-zip homes view xs ys)
