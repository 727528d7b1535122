-- The elements of an interface, as the code goes over them.
use Rattle.std.proofs.Common.{◌≡◌, ℕ, ◌<◌, List, [], ◌∷◌, ◌++◌, length, take, drop, map, refl, sym, ap, ◌∙◌, append_assoc, arith}
use Rattle.std.proofs.lemmas.List.{take-map, drop-map}
use Rattle.go_tree.specs.Tree.{Tree}
use Rattle.go_operands.specs.Operands.{operands_of}
use Rattle.go_term.specs.Types.{TypeData}
use Rattle.go_term.specs.declared.term.Term.{Term}
use Rattle.go_constructs.specs.Interface.{elem_in, elems_in, terms_in}

module _ (tree : Term → TypeData) where
  -- where no type is left
  pub terms-none : (t : Tree) (ts : List Tree) (types : List Term) → length types < 1 → terms_in ts (map tree types) ≡ terms_in (t ∷ ts) (map tree types)
  terms-none t [] [] none = refl
  terms-none t (u ∷ us) [] none = refl
  terms-none t ts (x ∷ xs) none = absurd (omega (arith, none))

  -- one more element, by as many types as stand in it
  pub elems-more : (home : List ℕ) (elem : Tree) (elems : List Tree) (types firsts behind : List Term) (many : ℕ) (old new : List TypeData)
      → many ≡ length (operands_of elem) → firsts ≡ take many types → behind ≡ drop many types → new ≡ old ++ elem_in home elem (map tree firsts)
      → new ++ elems_in home elems (map tree behind) ≡ old ++ elems_in home (elem ∷ elems) (map tree types)
  elems-more home elem elems types firsts behind many old new is taken left pushed =
      (λ i. pushed i ++ elems_in home elems (map tree behind))
      ∙ append_assoc old (elem_in home elem (map tree firsts)) (elems_in home elems (map tree behind))
      ∙ ap (λ ts. old ++ ts)
      ((λ i. elem_in home elem (map tree (taken i)) ++ elems_in home elems (map tree (left i)))
      ∙ (λ i. elem_in home elem (sym (take-map tree many types) i) ++ elems_in home elems (sym (drop-map tree many types) i))
      ∙ (λ i. elem_in home elem (take (is i) (map tree types)) ++ elems_in home elems (drop (is i) (map tree types))))
