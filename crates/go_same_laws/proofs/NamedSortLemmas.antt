-- What operators see of operands that name good objects only: only headers of good objects are needed.
use Rattle.std.proofs.Common.{ℕ, Bool, true, false, if◌then◌else◌, Option, Some, None, [], IfSome}
use Rattle.std.specs.Prelude.{unwrap_or}
use Rattle.go_num.specs.declared.value.Value.{Value}
use Rattle.go_term.specs.Types.{TypeData, list, of_list}
use Rattle.go_judge.specs.Operands.{is_value, type_or_none}
use Rattle.go_judge.specs.Records.{HeaderData, RecData}
use Rattle.go_judge.specs.Types.Forms.{found_in}
use Rattle.go_judge.specs.Types.UnderlyingType.{under}
use Rattle.go_judge.specs.Quests.{Quest, Done, then_ask}
use Rattle.go_constructs.specs.Operators.Matching.{match_by}
use Rattle.go_constructs.specs.Operators.Representable.{fit_of, representable}
use Rattle.go_constructs.specs.Operators.Sorts.{by_sort, by_sorts, sort_by, sort_found, sort_in, sort_of, sorts_of}
use Rattle.go_constructs.specs.declared.sort.Sort.{Sort}
use Rattle.go_constructs.specs.declared.sort.Sort.TheVariants as S
use Rattle.go_same_laws.specs.Named.{AsksOnly, IsGoodRecord, NamesOnly, ReachesGood}
use Rattle.go_same_laws.proofs.NamedLemmas.{AnyOf, asks_then, under_asks}
use Rattle.go_same_laws.proofs.NamedSameLemmas.{identical_asks}

module _ (good : ℕ → Type 0) where
  -- an answer that is computed from another
  pub asks_done : {A B : Type 0} (right : A → Type 0) (q : Quest HeaderData A) (f : A → B) → AsksOnly good right q → AsksOnly good AnyOf (then_ask q (λ a. Done (f a)))
  asks_done right q f first = asks_then good right AnyOf q (λ a. Done (f a)) first (λ a is. tt)

  pub sort_asks : (t : TypeData) → NamesOnly good t → AsksOnly good AnyOf (sort_of t)
  sort_asks t names = asks_done (ReachesGood good) (under t) (λ reach. sort_found (found_in reach)) (under_asks good t names)

  pub representable_asks : (v : Value) (t : TypeData) → NamesOnly good t → AsksOnly good AnyOf (representable v t)
  representable_asks v t names = asks_done AnyOf (sort_of t) (fit_of v) (sort_asks t names)

  -- OPERANDS

  sort_by_asks : (o : Option TypeData) → IfSome o (NamesOnly good) → AsksOnly good AnyOf (sort_by o)
  sort_by_asks None names = tt
  sort_by_asks (Some t) names = sort_asks t names

  if_asks : (b : Bool) (q : Quest HeaderData Sort) (s : Sort) → AsksOnly good AnyOf q → AsksOnly good AnyOf (if b then q else Done s)
  if_asks true q s first = first
  if_asks false q s first = tt

  pub sort_in_asks : (r : RecData) → IsGoodRecord good r → AsksOnly good AnyOf (sort_in r)
  sort_in_asks r names = if_asks (is_value r) (sort_by r.type) S.Other (sort_by_asks r.type names)

  pub sorts_asks : (x y : RecData) → IsGoodRecord good x → IsGoodRecord good y → AsksOnly good AnyOf (sorts_of x y)
  sorts_asks x y first second =
      asks_then good AnyOf AnyOf (sort_in x) (λ s. then_ask (sort_in y) (λ t. Done (s, t))) (sort_in_asks x first) (λ s is. asks_done AnyOf (sort_in y) (λ t. (s, t)) (sort_in_asks y second))

  pub by_sort_asks : {A : Type 0} (x : RecData) (answer : Sort → A) → IsGoodRecord good x → AsksOnly good AnyOf (by_sort x answer)
  by_sort_asks x answer first = asks_done AnyOf (sort_in x) answer (sort_in_asks x first)

  pub by_sorts_asks : {A : Type 0} (x y : RecData) (answer : Sort → Sort → A) → IsGoodRecord good x → IsGoodRecord good y → AsksOnly good AnyOf (by_sorts x y answer)
  by_sorts_asks x y answer first second = asks_done AnyOf (sorts_of x y) (λ pair. answer pair.0 pair.1) (sorts_asks x y first second)

  -- MATCHING

  or_none_names : (o : Option TypeData) → IfSome o (NamesOnly good) → NamesOnly good (unwrap_or o (of_list list []))
  or_none_names None names = (tt, tt)
  or_none_names (Some t) names = names

  pub type_names : (r : RecData) → IsGoodRecord good r → NamesOnly good (type_or_none r)
  type_names r names = or_none_names r.type names

  match_by_asks : (x y : RecData) → IsGoodRecord good x → IsGoodRecord good y → (s t : Sort) → AsksOnly good AnyOf (match_by x y s t)
  match_by_asks x y first second (S.Untyped k) (S.Untyped l) = tt
  match_by_asks x y first second (S.Untyped k) t = tt
  match_by_asks x y first second s (S.Untyped l) = tt
  match_by_asks x y first second s t = identical_asks good (type_or_none x) (type_or_none y) (type_names x first) (type_names y second)

  pub match_asks : (x y : RecData) → IsGoodRecord good x → IsGoodRecord good y → AsksOnly good AnyOf (then_ask (sorts_of x y) (λ pair. match_by x y pair.0 pair.1))
  match_asks x y first second = asks_then good AnyOf AnyOf (sorts_of x y) (λ pair. match_by x y pair.0 pair.1) (sorts_asks x y first second) (λ pair is. match_by_asks x y first second pair.0 pair.1)
