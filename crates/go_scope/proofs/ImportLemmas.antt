-- What imports declare, name after name and import after import.
use Rattle.std.proofs.Common.{◌≡◌, ℕ, ◌≤◌, min, Bool, Bor, Option, List, [], ◌∷◌, ◌++◌, map, filter, length, drop, inl, inr, refl, sym, ap, ◌∙◌, arith}
use Rattle.std.specs.List.{filter_map, flat_map, zip}
use Rattle.std.proofs.lemmas.Bool.{cases_lt}
use Rattle.std.proofs.lemmas.List.{append_assoc, append-nil, drop_all, map-append}
use Rattle.std.proofs.lemmas.List.Elements.{filter-append, filter_map-append}
use Rattle.go_tree.specs.declared.node.Node.{Node}
use Rattle.go_tree.specs.Tree.{tree_of}
use Rattle.go_module.specs.Names.Imports.{Importing, imports_in}
use Rattle.go_names.specs.Views.{trees_at}

-- behind one more entry of a table, of which what is read at those that pass is pushed
pub export_more : {A B C : Type 0} (f : B → C) (g : A → Option B) (p : A → Bool) (x : A) (left rest : List A) (old new whole : List C) → left ≡ x ∷ rest → old ++ map f (filter_map g (filter p left)) ≡ whole → new ≡ old ++ map f (filter_map g (filter p (x ∷ []))) → new ++ map f (filter_map g (filter p rest)) ≡ whole
export_more f g p x left rest old new whole at so_far pushed =
    ap (λ l. l ++ map f (filter_map g (filter p rest))) pushed
    ∙ append_assoc old (map f (filter_map g (filter p (x ∷ [])))) (map f (filter_map g (filter p rest)))
    ∙ ap (λ l. old ++ l) (sym (map-append f (filter_map g (filter p (x ∷ []))) (filter_map g (filter p rest))))
    ∙ ap (λ l. old ++ map f l) (sym (filter_map-append g (filter p (x ∷ [])) (filter p rest)))
    ∙ ap (λ l. old ++ map f (filter_map g l)) (sym (filter-append p (x ∷ []) rest))
    ∙ ap (λ l. old ++ map f (filter_map g (filter p l))) (sym at)
    ∙ so_far

-- nothing is paired with an empty list
no_pairs : {A B : Type 0} (xs : List A) → zip {X = B} xs [] ≡ []
no_pairs [] = refl
no_pairs (x ∷ xs) = refl

-- behind the shorter of two lists nothing is left to pair
pub pairs_done : {A B C : Type 0} (f : A → C) (xs : List A) (ys : List B) (i : ℕ) → min (length xs) (length ys) ≤ i → zip (map f (drop i xs)) (drop i ys) ≡ []
pairs_done f xs ys i behind =
    elim (cases_lt i (length xs)) [
      | inl within ↦ ap (zip (map f (drop i xs))) (drop_all i ys (omega arith)) ∙ no_pairs (map f (drop i xs))
      | inr past ↦ ap (λ l. zip (map f l) (drop i ys)) (drop_all i xs past)
    ]

-- behind the last import of a file
pub imports_done : {A : Type 0} (f : Importing → List A) (importer file : ℕ) (specs : List (Bor Node)) (packages : List ℕ) (i : ℕ) (list whole : List A) → min (length specs) (length packages) ≤ i → list ++ flat_map f (imports_in importer file (trees_at (drop i specs)) (drop i packages)) ≡ whole → list ≡ whole
imports_done f importer file specs packages i list whole behind so_far =
    let none : imports_in importer file (trees_at (drop i specs)) (drop i packages) ≡ [] =
    ap (map (λ pair. record { spec = pair.0; file = file; importer = importer; imported = pair.1 })) (pairs_done (λ node. tree_of node.now) specs packages i behind) in
    sym (append-nil list) ∙ ap (λ l. list ++ flat_map f l) (sym none) ∙ so_far
