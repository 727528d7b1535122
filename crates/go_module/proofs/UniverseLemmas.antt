-- The regions of the universe block, name after name.
use Rattle.std.proofs.Common.{◌≡◌, ℕ, ◌+◌, ◌<◌, List, [], ◌∷◌, ◌++◌, length, map, take, get_or, ap, ◌∙◌, arith}
use Rattle.std.proofs.lemmas.List.{map-append, take_more, length-map, length-take}
use Rattle.go_module.specs.Names.Universe.{Predeclared, universe_from, universe_region}

universe_from_more : (i n : ℕ) (names : List Predeclared) (name : Predeclared) → n ≡ i + length names → universe_from i (names ++ name ∷ []) ≡ universe_from i names ++ universe_region n name ∷ []
universe_from_more i n [] name e = ap (λ k. universe_region k name ∷ []) (let same : i ≡ n = omega arith in same)
universe_from_more i n (x ∷ xs) name e = ap (λ rest. universe_region i x ∷ rest) (universe_from_more (i + 1) n xs name (omega arith))

pub universe_more : {A : Type 0} (name : A → Predeclared) (xs : List A) (i : ℕ) (d : A) → i < length xs → universe_from 0 (map name (take (i + 1) xs)) ≡ universe_from 0 (map name (take i xs)) ++ universe_region i (name (get_or xs i d)) ∷ []
universe_more name xs i d lt =
    let long : i ≡ 0 + length (map name (take i xs)) = simp (length-map, length-take) (omega arith) in
    ap (λ ys. universe_from 0 (map name ys)) (take_more xs i d lt)
    ∙ ap (universe_from 0) (map-append name (take i xs) (get_or xs i d ∷ []))
    ∙ universe_from_more 0 i (map name (take i xs)) (name (get_or xs i d)) long
