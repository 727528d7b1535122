-- The headers of a package name good objects only, where those that are known before do: so does each record, and so each header that
-- follows from one.
use Rattle.std.proofs.Common.{◌≡◌, ℕ, Bool, Option, Some, None, List, [], ◌∷◌, refl, sym, ◌∙◌, subst, ⊎_elim}
use Rattle.std.specs.Prelude.{IfSome, option_and_then}
use Rattle.std.specs.Option.{option_map}
use Rattle.std.proofs.lemmas.Bool.{cases_eq}
use Rattle.std.proofs.lemmas.Option.{none-some, same_Some}
use Rattle.go_num.specs.declared.value.Value.{Value}
use Rattle.go_term.specs.Types.{Head, named, param, Parts, TypeData, made, more_parts, no_parts}
use Rattle.go_module.specs.declared.object.ObjKind.{ObjKind}
use Rattle.go_module.specs.declared.object.ObjKind.TheVariants.{Alias, Const, Defined, Var}
use Rattle.go_module.specs.Names.Declarations.{Declaration}
use Rattle.go_judge.specs.declared.rec.Mode.{Mode}
use Rattle.go_judge.specs.declared.rec.Mode.TheVariants as M
use Rattle.go_judge.specs.Headers.{Headers, headers_of}
use Rattle.go_judge.specs.Judged.{Broken, Found, Nothing, OutcomeData, Waits}
use Rattle.go_judge.specs.Naming.{Naming}
use Rattle.go_judge.specs.Records.{HeaderData, ParamData, RecData, alias, constant, definition, func, type_by, type_in, variable}
use Rattle.go_tree.specs.Tree.{Tree}
use Rattle.go_model.specs.Outcomes.Readings.{record_in}
use Rattle.go_model.specs.Outcomes.Walk.{outcome}
use Rattle.go_report.specs.Phases.{HasHeaders}
use Rattle.go_values.specs.Headers.{Justified}
use Rattle.go_values.specs.Records.{header_over, record_of, tells_by, told_by}
use Rattle.go_values.proofs.HeaderLemmas.{headers_of-here, headers_of-there}
use Rattle.go_same_laws.specs.Named.{AreGood, AreGoodParams, IsGoodHeader, IsGoodRecord, NameOnly, NamesGood, NamesOnly}
use Rattle.go_laws.proofs.Denoting.{MeansGood}
use Rattle.go_laws.proofs.RecordLemmas.{record_fine}

-- MORE THAT IS GOOD

module _ (good fine : ℕ → Type 0) (so : (n : ℕ) → good n → fine n) where
  head_so : (head : Head) → NamesGood good head → NamesGood fine head
  head_so (named d) is = so d.0 is
  head_so (param d i) is = so d.0 is
  head_so head is = tt

  mutual
    names_so : (t : TypeData) → NamesOnly good t → NamesOnly fine t
    names_so (made head parts) names = (head_so head names.0, all_names_so parts names.1)

    all_names_so : (ts : Parts) → NameOnly good ts → NameOnly fine ts
    all_names_so no_parts names = tt
    all_names_so (more_parts t ts) names = (names_so t names.0, all_names_so ts names.1)

  params_so : (params : List ParamData) → AreGoodParams good params → AreGoodParams fine params
  params_so [] all = tt
  params_so (p ∷ params) all = (names_so p.constraint all.0, params_so params all.1)

  pub header_so : (h : HeaderData) → IsGoodHeader good h → IsGoodHeader fine h
  header_so (constant type value) is = names_so type is
  header_so (variable type) is = names_so type is
  header_so (func params type) is = (params_so params is.0, names_so type is.1)
  header_so (definition params right methods) is = (params_so params is.0, names_so right is.1)
  header_so (alias type) is = names_so type is

-- HEADERS BY RECORDS

module _ (good : ℕ → Type 0) where
  type_names_by : (mode : Mode) (type : Option TypeData) → IfSome type (NamesOnly good) → IfSome (type_by mode type) (NamesOnly good)
  type_names_by M.IsType type names = names
  type_names_by mode type names = tt

  by_type : (tell : TypeData → HeaderData) → ((t : TypeData) → NamesOnly good t → IsGoodHeader good (tell t))
      → (o : Option TypeData) → IfSome o (NamesOnly good) → (h : HeaderData) → option_map tell o ≡ Some h → IsGoodHeader good h
  by_type tell tells None names h e = absurd (none-some h e)
  by_type tell tells (Some t) names h e = subst (IsGoodHeader good) (same_Some (tell t) h e) (tells t names)

  by_value : (type : TypeData) → NamesOnly good type → (value : Option Value) → (h : HeaderData) → option_map (constant type) value ≡ Some h → IsGoodHeader good h
  by_value type names None h e = absurd (none-some h e)
  by_value type names (Some v) h e = subst (IsGoodHeader good) (same_Some (constant type v) h e) names

  by_both : (type : Option TypeData) (value : Option Value) → IfSome type (NamesOnly good) → (h : HeaderData) → option_and_then (λ t. option_map (constant t) value) type ≡ Some h → IsGoodHeader good h
  by_both None value names h e = absurd (none-some h e)
  by_both (Some t) value names h e = by_value t names value h e

  told_good : (kind : ObjKind) (r : RecData) → IsGoodRecord good r → (h : HeaderData) → told_by kind r ≡ Some h → IsGoodHeader good h
  told_good Const r names h e = by_both r.type r.value names h e
  told_good Var r names h e = by_type variable (λ t is. is) (type_in r) (type_names_by r.mode r.type names) h e
  told_good Defined r names h e = by_type (λ type. definition [] type []) (λ t is. (tt, is)) (type_in r) (type_names_by r.mode r.type names) h e
  told_good Alias r names h e = by_type alias (λ t is. is) (type_in r) (type_names_by r.mode r.type names) h e
  told_good kind r names h e = absurd (none-some h e)

module _ (naming : Naming) (good : ℕ → Type 0) (means : MeansGood naming good) where
  -- a header that follows from these
  follows_good : (headers : Headers) → AreGood good headers → (d : Declaration) (h : HeaderData) → header_over naming headers d ≡ Some h → IsGoodHeader good h
  follows_good headers known d h e = by_tree (tells_by d.kind d.built d.types d.values) e
    where
      by_outcome : (t : Tree) (x : OutcomeData RecData) → outcome naming headers t ≡ x → option_and_then (told_by d.kind) (record_in x) ≡ Some h → IsGoodHeader good h
      by_outcome t (Found r) is f = told_good good d.kind r (record_fine naming good means headers known t r is).0 h f
      by_outcome t (Broken rule spots) is f = absurd (none-some h f)
      by_outcome t (Waits n) is f = absurd (none-some h f)
      by_outcome t Nothing is f = absurd (none-some h f)

      by_tree : (o : Option Tree) → option_and_then (told_by d.kind) (option_and_then (record_of naming headers) o) ≡ Some h → IsGoodHeader good h
      by_tree None f = absurd (none-some h f)
      by_tree (Some t) f = by_outcome t (outcome naming headers t) refl f

  module _ (before : Headers) (known : AreGood good before) (declarations : List Declaration) where
    list_good : (list : List (ℕ × HeaderData)) → Justified before naming declarations list → AreGood good (headers_of before list)
    list_good [] justified n h is e = known n h is e
    list_good (p ∷ list) justified n h is e =
        ⊎_elim
        (λ (here : p.0 ≡ n). (let same : p.1 ≡ h = same_Some p.1 h (sym (headers_of-here before p list n here) ∙ e) in
        subst (IsGoodHeader good) same
        (follows_good (headers_of before list) (list_good list justified.0) justified.1.declaration p.1 justified.1.tells)))
        (λ ne. list_good list justified.0 n h is (sym (headers_of-there before p list n ne) ∙ e))
        (cases_eq p.0 n)

    pub headers_good : (headers : Headers) (cyclic : ℕ → Bool) → HasHeaders before naming declarations headers cyclic → AreGood good headers
    headers_good headers cyclic has n h is e = let k = (has.known n h).0 e in list_good k.list k.justified n h is k.has
