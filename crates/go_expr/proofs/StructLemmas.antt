-- The fields of a struct, as the code goes over their declarations and types at once.
use Rattle.std.proofs.Common.{◌≡◌, ℕ, ◌≤◌, min, List, [], ◌∷◌, ◌++◌, inl, inr, length, map, drop, refl, sym, ap, ◌∙◌, arith}
use Rattle.std.proofs.lemmas.List.{append-nil, drop_all}
use Rattle.std.proofs.lemmas.Bool.{cases_lt}
use Rattle.std.specs.List.{flat_map, zip}
use Rattle.go_tree.specs.Tree.{Tree}
use Rattle.go_term.specs.Types.{TypeData}
use Rattle.go_constructs.specs.Struct.{fields_by, fields_in}

-- nothing is paired with an empty list
no_pairs : {A B : Type 0} (xs : List A) → zip {X = B} xs [] ≡ []
no_pairs [] = refl
no_pairs (x ∷ xs) = refl

-- behind the shorter of two lists nothing is left to pair
pub pairs_done : {A B C D : Type 0} (f : A → C) (g : B → D) (xs : List A) (ys : List B) (i : ℕ) → min (length xs) (length ys) ≤ i → zip (map f (drop i xs)) (map g (drop i ys)) ≡ []
pairs_done f g xs ys i behind =
    elim (cases_lt i (length xs)) [
      | inl within ↦ ap (λ l. zip (map f (drop i xs)) (map g l)) (drop_all i ys (omega arith)) ∙ no_pairs (map f (drop i xs))
      | inr past ↦ ap (λ l. zip (map f l) (map g (drop i ys))) (drop_all i xs past)
    ]

-- behind the last declaration or the last type
pub fields_done : {A B : Type 0} (home : List ℕ) (f : A → Tree) (g : B → TypeData) (decls : List A) (types : List B) (i : ℕ) (list whole : List TypeData)
    → min (length decls) (length types) ≤ i → list ++ fields_in home (map f (drop i decls)) (map g (drop i types)) ≡ whole → list ≡ whole
fields_done home f g decls types i list whole behind so_far =
    sym (append-nil list)
    ∙ ap (λ pairs. list ++ flat_map (λ (pair : Tree × TypeData). fields_by home pair.0 pair.1) pairs) (sym (pairs_done f g decls types i behind))
    ∙ so_far
