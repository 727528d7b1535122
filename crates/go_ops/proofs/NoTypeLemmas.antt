-- What has no type is identical to what has none alone.
use Rattle.std.proofs.Common.{◌≡◌, ℕ, suc, Bool, true, false, [], refl, sym, ap, ◌∙◌}
use Rattle.go_term.specs.Types.{TypeData, list, of_list}
use Rattle.go_term.specs.View.{SignatureData, elem_step, field_step, func_step, term_step, type_of, union_step}
use Rattle.go_term.specs.declared.term.Term.{Term}
use Rattle.go_term.specs.declared.term.ElemTerm.TheFolds.{fold_out-Term}
use Rattle.go_term.specs.declared.term.ElemTerm.TheOpen as Open
use Rattle.go_judge.specs.Headers.{Headers}
use Rattle.go_judge.specs.Types.TypeIdentity.{identical, most_levels, most_opened, same}
use Rattle.go_judge.specs.Types.TypeSets.{plain}
use Rattle.go_judge.specs.Quests.{Decided, run}

abbrev none : TypeData
none = of_list list []

abbrev Layer : Type 0
Layer = Open.Term-F TypeData TypeData TypeData SignatureData TypeData

-- a type by its outermost layer
layer : (t : Term) → (o : Layer) × (type_of t ≡ term_step o)
layer t = (_, fold_out-Term TypeData TypeData TypeData SignatureData TypeData elem_step term_step field_step func_step union_step t)

module _ (headers : Headers) (n left : ℕ) where
  first_differs : (o : Layer) → run headers (same (suc n) false left (plain (term_step o)) none) ≡ Decided false
  first_differs (Open.Basic b) = refl
  first_differs o = refl

  second_differs : (o : Layer) → run headers (same (suc n) false left none (plain (term_step o))) ≡ Decided false
  second_differs (Open.Basic b) = refl
  second_differs o = refl

  both_none : run headers (same (suc n) false left none none) ≡ Decided true
  both_none = refl

levels : suc 8480 ≡ most_levels
unfolding most_levels
levels = refl

module _ (headers : Headers) where
  by_levels : (a b : TypeData) (answer : Bool) → run headers (same (suc 8480) false most_opened (plain a) (plain b)) ≡ Decided answer → run headers (identical a b) ≡ Decided answer
  by_levels a b answer is = ap (λ (m : ℕ). run headers (same m false most_opened (plain a) (plain b))) (sym levels) ∙ is

  pub typed-none : (t : Term) → run headers (identical (type_of t) (of_list list [])) ≡ Decided false
  typed-none t =
      by_levels (type_of t) none false
      (ap (λ (u : TypeData). run headers (same (suc 8480) false most_opened (plain u) none)) (layer t).1 ∙ first_differs headers 8480 most_opened (layer t).0)

  pub none-typed : (t : Term) → run headers (identical (of_list list []) (type_of t)) ≡ Decided false
  none-typed t =
      by_levels none (type_of t) false
      (ap (λ (u : TypeData). run headers (same (suc 8480) false most_opened none (plain u))) (layer t).1 ∙ second_differs headers 8480 most_opened (layer t).0)

  pub none-none : run headers (identical (of_list list []) (of_list list [])) ≡ Decided true
  none-none = by_levels none none true (both_none headers 8480 most_opened)
