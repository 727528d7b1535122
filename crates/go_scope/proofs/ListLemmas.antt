-- Lists that grow in a loop over another.
use Rattle.std.proofs.Common.{◌≡◌, ℕ, Bool, ◌||◌, ◌+◌, ◌<◌, List, [], ◌∷◌, ◌++◌, length, drop, map, take, get_or, sym, ap, ◌∙◌}
use Rattle.std.specs.List.{flat_map, list_any}
use Rattle.std.proofs.lemmas.List.{append_assoc, drop_more, flat_map_more, get_or_default, take_more}
use Rattle.std.proofs.lemmas.List.Folds.{list_any_more}

-- what one more element adds
pub flat_step : {X Y : Type 0} (f : X → List Y) (xs : List X) (i : ℕ) (x : X) (start old new : List Y) → i < length xs → x ≡ get_or xs i x → old ≡ start ++ flat_map f (take i xs) → new ≡ old ++ f x → new ≡ start ++ flat_map f (take (i + 1) xs)
flat_step f xs i x start old new lt at before now =
    let front : take (i + 1) xs ≡ take i xs ++ x ∷ [] = take_more xs i x lt ∙ ap (λ y. take i xs ++ y ∷ []) (sym at) in
    now
    ∙ ap (λ l. l ++ f x) before
    ∙ flat_map_more f start (take i xs) x
    ∙ ap (λ l. start ++ flat_map f l) (sym front)

-- the same, where the element is read off the list
pub flat_step_at : {X Y : Type 0} (f : X → List Y) (xs : List X) (i : ℕ) (d : X) (start old new : List Y) → i < length xs → old ≡ start ++ flat_map f (take i xs) → new ≡ old ++ f (get_or xs i d) → new ≡ start ++ flat_map f (take (i + 1) xs)
flat_step_at f xs i d start old new lt before now = flat_step f xs i (get_or xs i d) start old new lt (get_or_default xs i d (get_or xs i d) lt) before now

-- the same, by what the elements left add
pub left_step : {X Y Z : Type 0} (g : X → Z) (f : Z → List Y) (xs : List X) (i : ℕ) (x : X) (old new whole : List Y) → i < length xs → x ≡ get_or xs i x → old ++ flat_map f (map g (drop i xs)) ≡ whole → new ≡ old ++ f (g x) → new ++ flat_map f (map g (drop (i + 1) xs)) ≡ whole
left_step g f xs i x old new whole lt at before now =
    let rest = drop (i + 1) xs in
    ap (λ l. l ++ flat_map f (map g rest)) now
    ∙ append_assoc old (f (g x)) (flat_map f (map g rest))
    ∙ ap (λ l. old ++ flat_map f (map g l)) (ap (λ y. y ∷ rest) at ∙ sym (drop_more xs i x lt))
    ∙ before

-- whether one more element passes
pub any_step : {X : Type 0} (p : X → Bool) (xs : List X) (i : ℕ) (x : X) (old new : Bool) → i < length xs → x ≡ get_or xs i x → old ≡ list_any p (take i xs) → new ≡ (old || p x) → new ≡ list_any p (take (i + 1) xs)
any_step p xs i x old new lt at before now =
    now
    ∙ ap (λ b. b || p x) before
    ∙ ap (λ y. list_any p (take i xs) || p y) at
    ∙ sym (list_any_more p xs i x lt)
