-- Records, headers and outcomes whose types are a judge's own.
use Rattle.std.proofs.Common.{◌≡◌, Option, Some, None, List, [], ◌∷◌, map, refl, ap}
use Rattle.std.specs.Prelude.{IfSome}
use Rattle.std.specs.List.{AllByRecursion}
use Rattle.std.specs.Option.{option_map}
use Rattle.go_term.specs.Types.{TypeData}
use Rattle.go_term.specs.View.{type_of}
use Rattle.go_term.specs.declared.term.Term.{Term}
use Rattle.go_judge.specs.declared.header.Header.{Header}
use Rattle.go_judge.specs.declared.header.Header.TheVariants as H
use Rattle.go_judge.specs.declared.header.TypeParam.{TypeParam}
use Rattle.go_judge.specs.declared.outcome.Outcome.{Outcome}
use Rattle.go_judge.specs.declared.outcome.Outcome.TheVariants as O
use Rattle.go_judge.specs.declared.rec.Rec.{Rec}
use Rattle.go_judge.specs.Judged as outcomes
use Rattle.go_judge.specs.Judged.{OutcomeData}
use Rattle.go_judge.specs.Records.{RecData, alias, constant, definition, func, header_as, param_as, rec_as, rec_view, variable}
use Rattle.go_judge.specs.View.{outcome_as, outcome_view}
use Rattle.go_judge.specs.Types.Own.{IsOwnHeader, IsOwnOutcome, IsOwnParam, IsOwnRec}
use Rattle.go_judge.proofs.OwnLemmas.{Any}

-- where types of its own stand for the same, so do the records, headers and outcomes that have them
module _ (own : Term → Type 0) (tree tree' : Term → TypeData) (same : (t : Term) → own t → tree' t ≡ tree t) where
  some_agree : (o : Option Term) → IfSome o own → option_map tree' o ≡ option_map tree o
  some_agree None is = refl
  some_agree (Some t) is = ap Some (same t is)

  pub rec_agrees : (r : Rec) → IsOwnRec own r → rec_as tree' r ≡ rec_as tree r
  rec_agrees r is = ap (λ (type : Option TypeData). record { mode = r.mode; type = type; value = r.value; object = r.object; span = r.span }) (some_agree r.ty is)

  params_agree : (ps : List TypeParam) → AllByRecursion (IsOwnParam own) ps → map (param_as tree') ps ≡ map (param_as tree) ps
  params_agree [] is = refl
  params_agree (p ∷ ps) is = λ i. record { object = p.object; constraint = same p.bound is.0 i } ∷ params_agree ps is.1 i

  pub header_agrees : (h : Header) → IsOwnHeader own h → header_as tree' h ≡ header_as tree h
  header_agrees (H.Const type value) is = ap (λ (t : TypeData). constant t value) (same type is)
  header_agrees (H.Var type) is = ap variable (same type is)
  header_agrees (H.Func params type) is = λ i. func (params_agree params.items is.0 i) (same type is.1 i)
  header_agrees (H.Defined params right methods) is = λ i. definition (params_agree params.items is.0 i) (same right is.1 i) methods.items
  header_agrees (H.Alias type) is = ap alias (same type is)

  pub outcome_agrees : (o : Outcome) → IsOwnOutcome own o → outcome_as tree' o ≡ outcome_as tree o
  outcome_agrees (O.Found rec) is = ap outcomes.Found (rec_agrees rec is)
  outcome_agrees (O.Broken rule spots) is = refl
  outcome_agrees (O.Waits d) is = refl
  outcome_agrees O.Nothing is = refl

-- what is among one's own is among more
module _ (own own' : Term → Type 0) (more : (t : Term) → own t → own' t) where
  pub rec_stays_own : (r : Rec) → IsOwnRec own r → IsOwnRec own' r
  rec_stays_own r is = some_stay r.ty is
    where
      some_stay : (o : Option Term) → IfSome o own → IfSome o own'
      some_stay None has = has
      some_stay (Some t) has = more t has

  params_stay_own : (ps : List TypeParam) → AllByRecursion (IsOwnParam own) ps → AllByRecursion (IsOwnParam own') ps
  params_stay_own [] is = tt
  params_stay_own (p ∷ ps) is = (more p.bound is.0, params_stay_own ps is.1)

  pub header_stays_own : (h : Header) → IsOwnHeader own h → IsOwnHeader own' h
  header_stays_own (H.Const type value) is = more type is
  header_stays_own (H.Var type) is = more type is
  header_stays_own (H.Func params type) is = (params_stay_own params.items is.0, more type is.1)
  header_stays_own (H.Defined params right methods) is = (params_stay_own params.items is.0, more right is.1)
  header_stays_own (H.Alias type) is = more type is

  pub outcome_stays_own : (o : Outcome) → IsOwnOutcome own o → IsOwnOutcome own' o
  outcome_stays_own (O.Found rec) is = rec_stays_own rec is
  outcome_stays_own (O.Broken rule spots) is = tt
  outcome_stays_own (O.Waits d) is = tt
  outcome_stays_own O.Nothing is = tt

-- copies, where a type once more is a judge's own and stands for the same
module _ (own : Term → Type 0) (tree : Term → TypeData) (copies : (t copy : Term) → type_of copy ≡ type_of t → own t → own copy × (tree copy ≡ tree t)) where
  some_copied : (o copy : Option Term) → option_map type_of copy ≡ option_map type_of o → IfSome o own → IfSome copy own × (option_map tree copy ≡ option_map tree o)
  some_copied None None same is = (tt, refl)
  some_copied None (Some c) same is = absurd (let never : Some (type_of c) ≡ None = same in cc)
  some_copied (Some t) None same is = absurd (let never : None ≡ Some (type_of t) = same in cc)
  some_copied (Some t) (Some c) same is =
      let here : Some (type_of c) ≡ Some (type_of t) = same in
      let type : type_of c ≡ type_of t = cc in
      ((copies t c type is).0, ap Some (copies t c type is).1)

  pub rec_copied : (r copy : Rec) → rec_view copy ≡ rec_view r → IsOwnRec own r → IsOwnRec own copy × (rec_as tree copy ≡ rec_as tree r)
  rec_copied r copy same is =
      let type = some_copied r.ty copy.ty (ap (λ (x : RecData). x.type) same) is in
      (type.0, λ i. record { mode = (same i).mode; type = type.1 i; value = (same i).value; object = (same i).object; span = (same i).span })

  pub outcome_copied : (o copy : Outcome) → outcome_view copy ≡ outcome_view o → IsOwnOutcome own o → IsOwnOutcome own copy × (outcome_as tree copy ≡ outcome_as tree o)
  outcome_copied (O.Found r) (O.Found c) same is =
      let here : outcomes.Found (rec_view c) ≡ outcomes.Found (rec_view r) = same in
      let rec : rec_view c ≡ rec_view r = cc in
      ((rec_copied r c rec is).0, ap outcomes.Found (rec_copied r c rec is).1)
  outcome_copied (O.Found r) (O.Broken rule spots) same is = absurd (let never : outcomes.Broken rule spots.items ≡ outcomes.Found (rec_view r) = same in cc)
  outcome_copied (O.Found r) (O.Waits d) same is = absurd (let never : outcomes.Waits d.0 ≡ outcomes.Found (rec_view r) = same in cc)
  outcome_copied (O.Found r) O.Nothing same is = absurd (let never : outcomes.Nothing ≡ outcomes.Found (rec_view r) = same in cc)
  outcome_copied (O.Broken rule spots) (O.Found c) same is = absurd (let never : outcomes.Found (rec_view c) ≡ outcomes.Broken rule spots.items = same in cc)
  outcome_copied (O.Broken rule spots) (O.Broken rule' spots') same is = (tt, same)
  outcome_copied (O.Broken rule spots) (O.Waits d) same is = (tt, same)
  outcome_copied (O.Broken rule spots) O.Nothing same is = (tt, same)
  outcome_copied (O.Waits d) (O.Found c) same is = absurd (let never : outcomes.Found (rec_view c) ≡ outcomes.Waits d.0 = same in cc)
  outcome_copied (O.Waits d) (O.Broken rule spots) same is = (tt, same)
  outcome_copied (O.Waits d) (O.Waits e) same is = (tt, same)
  outcome_copied (O.Waits d) O.Nothing same is = (tt, same)
  outcome_copied O.Nothing (O.Found c) same is = absurd (let never : outcomes.Found (rec_view c) ≡ outcomes.Nothing = same in cc)
  outcome_copied O.Nothing (O.Broken rule spots) same is = (tt, same)
  outcome_copied O.Nothing (O.Waits d) same is = (tt, same)
  outcome_copied O.Nothing O.Nothing same is = (tt, same)

-- where any type is a judge's own, so is each header
params_any : (ps : List TypeParam) → AllByRecursion (IsOwnParam Any) ps
params_any [] = tt
params_any (p ∷ ps) = (tt, params_any ps)

pub header_any : (h : Header) → IsOwnHeader Any h
header_any (H.Const type value) = tt
header_any (H.Var type) = tt
header_any (H.Func params type) = (params_any params.items, tt)
header_any (H.Defined params right methods) = (params_any params.items, tt)
header_any (H.Alias type) = tt
