-- The header of each declaration is honest over headers that are, and they stay so with one more.
use Rattle.std.proofs.Common.{◌≡◌, ℕ, Option, Some, None, [], ◌∷◌, refl, sym, ap, subst, ◌∙◌, ⊎_elim}
use Rattle.std.specs.Prelude.{option_and_then}
use Rattle.std.specs.Option.{option_map}
use Rattle.std.proofs.lemmas.Bool.{cases_eq}
use Rattle.go_num.specs.declared.value.Value.{Value}
use Rattle.go_term.specs.Types.{TypeData}
use Rattle.go_tree.specs.Tree.{Tree}
use Rattle.go_module.specs.declared.object.ObjKind.{ObjKind}
use Rattle.go_module.specs.declared.object.ObjKind.TheVariants.{Alias, Const, Defined, Var}
use Rattle.go_module.specs.Names.Declarations.{Declaration}
use Rattle.go_judge.specs.Headers.{Headers, headers_of}
use Rattle.go_judge.specs.Judged.{Broken, Found, Nothing, OutcomeData, Waits, made}
use Rattle.go_judge.specs.Naming.{Naming}
use Rattle.go_judge.specs.Quests.{IsPart, Stays, run}
use Rattle.go_judge.specs.Records.{HeaderData, RecData, alias, constant, definition, type_in, variable}
use Rattle.go_judge.proofs.QuestLemmas.{run-stays}
use Rattle.go_constructs.specs.Operators.Honest.{AreHonest, GivesHonest, IsHonest, IsHonestHeader}
use Rattle.go_constructs.specs.Operators.Representable.{representable}
use Rattle.go_model.specs.Outcomes.Readings.{record_in}
use Rattle.go_model.specs.Outcomes.Walk.{outcome}
use Rattle.go_values.specs.Records.{header_over, tells_by, told_by}
use Rattle.go_values.proofs.HeaderLemmas.{headers_of-here, headers_of-there}
use Rattle.go_expr.proofs.HonestLemmas.{outcome-honest}

module _ (headers : Headers) where
  -- one that is made of a type alone
  other_header : (make : TypeData → HeaderData) → ((t type : TypeData) (v : Value) → make t ≡ constant type v → ⊥) → (o : Option TypeData) (h : HeaderData) → option_map make o ≡ Some h → IsHonestHeader headers h
  other_header make never None h is = absurd (let none : None ≡ Some h = is in cc)
  other_header make never (Some t) h is = let whole : Some (make t) ≡ Some h = is in let same : make t ≡ h = cc in λ type v constant_is. absurd (never t type v (same ∙ constant_is))

  constant_header : (r : RecData) → IsHonest headers r → (type : Option TypeData) (value : Option Value) → r.type ≡ type → r.value ≡ value → (h : HeaderData) → option_and_then (λ t. option_map (constant t) value) type ≡ Some h → IsHonestHeader headers h
  constant_header r honest None value has stands h is = absurd (let none : None ≡ Some h = is in cc)
  constant_header r honest (Some t) None has stands h is = absurd (let none : None ≡ Some h = is in cc)
  constant_header r honest (Some t) (Some w) has stands h is = λ type v constant_is.
      let fit = honest.fitting w stands in
      let known : Some fit.type ≡ Some t = sym fit.has ∙ has in
      let whole : Some (constant t w) ≡ Some h = is in
      let same : constant t w ≡ constant type v = cc in
      let type_is : fit.type ≡ type = cc in
      let value_is : w ≡ v = cc in
      (λ i. run headers (representable (sym value_is i) (sym type_is i))) ∙ fit.fits

  told_honest : (kind : ObjKind) (r : RecData) → IsHonest headers r → (h : HeaderData) → told_by kind r ≡ Some h → IsHonestHeader headers h
  told_honest Const r honest h is = constant_header r honest r.type r.value refl refl h is
  told_honest Var r honest h is = other_header variable (λ t type v e. (let clash : variable t ≡ constant type v = e in cc)) (type_in r) h is
  told_honest Defined r honest h is = other_header (λ type. definition [] type []) (λ t type v e. (let clash : definition [] t [] ≡ constant type v = e in cc)) (type_in r) h is
  told_honest Alias r honest h is = other_header alias (λ t type v e. (let clash : alias t ≡ constant type v = e in cc)) (type_in r) h is
  told_honest kind r honest h is = absurd (let none : None ≡ Some h = is in cc)

pub header-honest : (naming : Naming) (headers : Headers) → AreHonest headers → (declaration : Declaration) (h : HeaderData) → header_over naming headers declaration ≡ Some h → IsHonestHeader headers h
header-honest naming headers honest declaration h = by_node (tells_by declaration.kind declaration.built declaration.types declaration.values)
  where
    by_record : (x : OutcomeData RecData) → GivesHonest headers x → option_and_then (told_by declaration.kind) (record_in x) ≡ Some h → IsHonestHeader headers h
    by_record (Found r) gives is = told_honest headers declaration.kind r (gives r refl) h is
    by_record (Broken rule spots) gives is = absurd (let none : None ≡ Some h = is in cc)
    by_record (Waits d) gives is = absurd (let none : None ≡ Some h = is in cc)
    by_record Nothing gives is = absurd (let none : None ≡ Some h = is in cc)

    by_node : (t : Option Tree) → option_and_then (told_by declaration.kind) (option_and_then (λ u. record_in (outcome naming headers u)) t) ≡ Some h → IsHonestHeader headers h
    by_node None is = absurd (let none : None ≡ Some h = is in cc)
    by_node (Some t) is = by_record (outcome naming headers t) (outcome-honest naming headers honest t) is

-- what is honest stays so over more headers
header_stays : (known more : Headers) → IsPart known more → (h : HeaderData) → IsHonestHeader known h → IsHonestHeader more h
header_stays known more part h honest type v is =
    subst (λ x. Stays more x (run more (representable v type))) (honest type v is) (run-stays known more part (representable v type))

pub added-honest : (headers : Headers) → AreHonest headers → (d : ℕ) (h : HeaderData) → headers d ≡ None → IsHonestHeader headers h → AreHonest (headers_of headers ((d, h) ∷ []))
added-honest headers honest d h fresh new e k is =
    ⊎_elim
    (λ here.
    let same : h ≡ k = cc (headers_of-here headers (d, h) [] e here, is) in
    subst (IsHonestHeader more) same (header_stays headers more part h new))
    (λ ne. header_stays headers more part k (honest e k (sym (headers_of-there headers (d, h) [] e ne) ∙ is)))
    (cases_eq d e)
  where
    more : Headers
    more = headers_of headers ((d, h) ∷ [])

    part : IsPart headers more
    part n old has =
        ⊎_elim
        (λ here. absurd (let never : None ≡ Some old = sym fresh ∙ ap headers here ∙ has in cc))
        (λ ne. headers_of-there headers (d, h) [] n ne ∙ has)
        (cases_eq d n)

pub no-honest : AreHonest (λ d. None)
no-honest d h is = absurd (let never : None ≡ Some h = is in cc)
