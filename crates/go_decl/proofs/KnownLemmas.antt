-- The map of headers beside rules, as these come to have more types and are told headers.
use Rattle.std.proofs.Common.{◌≡◌, ℕ, Bool, Option, Some, None, [], ◌∷◌, refl, sym, ap, ◌∙◌, subst}
use Rattle.std.specs.Prelude.{◌==◌, IfSome, if◌then◌else◌, is_some}
use Rattle.std.specs.Option.{option_map}
use Rattle.go_term.specs.Types.{TypeData}
use Rattle.go_term.specs.declared.term.Term.{Term}
use Rattle.go_judge.specs.declared.header.Header.{Header}
use Rattle.go_judge.specs.declared.headers.Headers.{Headers as HeaderMap}
use Rattle.go_judge.specs.Records.{header_as}
use Rattle.go_judge.specs.Headers.{Headers, headers_of}
use Rattle.go_judge.specs.Types.Own.{IsOwnHeader, KeepsTypes}
use Rattle.go_judge.specs.HeadersView.{AreOwnHeaders, header_in, headers_as}
use Rattle.go_judge.proofs.HeadersViewLemmas.{headers_added, headers_agree, headers_stay_own, own_added}
use Rattle.go_judge.proofs.OwnDataLemmas.{header_agrees, header_stays_own}

-- whether rules have a header, by the map
is_some-map : {A B : Type 0} (f : A → B) (o : Option A) → is_some (option_map f o) ≡ is_some o
is_some-map f None = refl
is_some-map f (Some a) = refl

pub has_header : (tree : Term → TypeData) (known : HeaderMap) (headers : Headers) (d : ℕ) (b : Bool) → headers_as tree known ≡ headers → b ≡ is_some (header_in known d) → is_some (headers d) ≡ b
has_header tree known headers d b same is = ap (λ (m : Headers). is_some (m d)) (sym same) ∙ is_some-map (header_as tree) (header_in known d) ∙ sym is

-- the header that was found has types of its own
pub found_own : (own : Term → Type 0) (o : Option Header) (h : Header) → o ≡ Some h → IfSome o (IsOwnHeader own) → IsOwnHeader own h
found_own own o h is owned = subst (λ (x : Option Header). IfSome x (IsOwnHeader own)) is owned

module _ {own own' : Term → Type 0} {tree tree' : Term → TypeData} (keeps : KeepsTypes own own' tree tree') (old : HeaderMap) (are : AreOwnHeaders own old) where
  -- where the map stays as it is
  pub still_agree : headers_as tree' old ≡ headers_as tree old
  still_agree = headers_agree own own' tree tree' keeps old are

  pub still_same : {headers headers' : Headers} → headers_as tree old ≡ headers → headers' ≡ headers → headers_as tree' old ≡ headers'
  still_same same kept = still_agree ∙ same ∙ sym kept

  pub still_own : AreOwnHeaders own' old
  still_own = headers_stay_own own own' tree tree' keeps old are

  -- where it was to have one more header, and memory was refused
  module _ (new : HeaderMap) (same : (e : ℕ) → header_in new e ≡ header_in old e) where
    pub refused_agree : headers_as tree' new ≡ headers_as tree old
    refused_agree = (λ i e. option_map (header_as tree') (same e i)) ∙ still_agree

    pub refused_own : AreOwnHeaders own' new
    refused_own e = subst (λ (h : Option Header). IfSome h (IsOwnHeader own')) (sym (same e)) (still_own e)

  -- where it has one more header
  module _ (new : HeaderMap) (d : ℕ) (header : Header) (is : IsOwnHeader own header) (added : (e : ℕ) → header_in new e ≡ (if d == e then Some header else header_in old e)) where
    pub told_same : {headers headers' : Headers} → headers_as tree old ≡ headers → ((e : ℕ) → headers' e ≡ headers_of headers ((d, header_as tree header) ∷ []) e) → headers_as tree' new ≡ headers'
    told_same {headers} {headers'} same learned =
        let before : headers_as tree' old ≡ headers = still_agree ∙ same in
        let one : header_as tree' header ≡ header_as tree header = header_agrees own tree tree' keeps.trees header is in
        let each : (e : ℕ) → headers_as tree' new e ≡ headers' e =
        λ e. headers_added old new d header added tree' e ∙ (λ i. headers_of (before i) ((d, one i) ∷ []) e) ∙ sym (learned e) in
        λ i e. each e i

    pub told_own : AreOwnHeaders own' new
    told_own = own_added old new d header added own' (header_stays_own own own' keeps.types header is) still_own
