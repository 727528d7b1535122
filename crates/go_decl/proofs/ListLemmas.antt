-- Lists that are gone through, and answers.
use Rattle.std.proofs.Common.{◌≡◌, ℕ, zero, suc, ◌+◌, ◌<◌, Some, List, [], ◌∷◌, ◌++◌, length, get_or, map, drop, sym, ap, ◌∙◌, subst, append_assoc, add-one, arith}
use Rattle.std.specs.Prelude.{OnErr, OnOk, slice_get}
use Rattle.std.specs.List.{flat_map}
use Rattle.std.specs.declared.result.Result.{Result}
use Rattle.std.specs.declared.result.Result.TheVariants.{Ok, Err}
use Rattle.std.proofs.Math.Seq.{drop-cons}

-- what is left of a list, from an element on
pub drop-step : {X : Type 0} (xs : List X) (i : ℕ) (x : X) → i < length xs → x ≡ get_or xs i x → drop i xs ≡ x ∷ drop (i + 1) xs
drop-step xs i x lt e = drop-cons xs i x lt ∙ ap (λ y. y ∷ drop (suc i) xs) (sym e) ∙ ap (λ k. x ∷ drop k xs) (sym (add-one i))

-- one more element
pub one_more : {X Y Z : Type 0} (f : Y → List Z) (g : X → Y) (xs : List X) (i : ℕ) (x : X) (old new whole : List Z) → drop i xs ≡ x ∷ drop (i + 1) xs
    → new ≡ old ++ f (g x) → old ++ flat_map f (map g (drop i xs)) ≡ whole → new ++ flat_map f (map g (drop (i + 1) xs)) ≡ whole
one_more f g xs i x old new whole at now so_far =
    ap (λ l. l ++ flat_map f (map g (drop (i + 1) xs))) now
    ∙ append_assoc old (f (g x)) (flat_map f (map g (drop (i + 1) xs)))
    ∙ ap (λ l. old ++ flat_map f (map g l)) (sym at)
    ∙ so_far

-- what holds anyway holds of an answer that is Ok
pub on_ok : {T E : Type 0} (r : Result T E) (P : Type 0) → P → OnOk r P
on_ok (Ok x) P p = p
on_ok (Err e) P p = tt

pub on_err_map : {T E : Type 0} (r : Result T E) (P Q : Type 0) → (P → Q) → OnErr r P → OnErr r Q
on_err_map (Ok x) P Q f p = tt
on_err_map (Err e) P Q f p = f p

-- what either answer gives
pub either_answer : {T E : Type 0} (r : Result T E) (P Q X : Type 0) → (P → X) → (Q → X) → OnOk r P → OnErr r Q → X
either_answer (Ok x) P Q X f g p q = f p
either_answer (Err e) P Q X f g p q = g q

-- what a view shows of an element
pub viewed_at : {X Y : Type 0} (f : X → Y) (xs : List X) (q : ℕ) (x : X) → q < length xs → x ≡ get_or xs q x → slice_get (map f xs) q ≡ Some (f x)
viewed_at f [] q x lt e = absurd (omega (arith, lt))
viewed_at f (y ∷ xs) zero x lt e = ap (λ z. Some (f z)) (sym e)
viewed_at f (y ∷ xs) (suc q) x lt e = viewed_at f xs q x (omega (arith, lt)) e

-- what holds of the element at a place holds of what stands there
pub of_each_there : {X : Type 0} (P : X → Type 0) (xs : List X) (k : ℕ) (x : X) → slice_get xs k ≡ Some x → P x → (y : X) → slice_get xs k ≡ Some y → P y
of_each_there P xs k x at h y there = subst P (let same : x ≡ y = cc (at, there) in same) h
