-- Maps of headers: what they have behind one more, and over types that stay.
use Rattle.std.proofs.Common.{◌≡◌, ℕ, Bool, true, false, Option, Some, None, [], ◌∷◌, refl, sym, ap, ◌∙◌, subst}
use Rattle.std.specs.Prelude.{◌==◌, IfSome, if◌then◌else◌}
use Rattle.std.specs.Option.{option_map}
use Rattle.go_term.specs.Types.{TypeData}
use Rattle.go_term.specs.declared.term.Term.{Term}
use Rattle.go_judge.specs.declared.header.Header.{Header}
use Rattle.go_judge.specs.declared.headers.Headers.{Headers}
use Rattle.go_judge.specs.Records.{header_as}
use Rattle.go_judge.specs.Types.Own.{IsOwnHeader, KeepsTypes}
use Rattle.go_judge.specs.Headers.{headers_of}
use Rattle.go_judge.specs.HeadersView.{AreOwnHeaders, header_in, headers_as}
use Rattle.go_judge.proofs.EntryLemmas.{chosen}
use Rattle.go_judge.proofs.OwnDataLemmas.{header_agrees, header_stays_own}

-- over types that stay
module _ (own own' : Term → Type 0) (tree tree' : Term → TypeData) (keeps : KeepsTypes own own' tree tree') (headers : Headers) (are : AreOwnHeaders own headers) where
  some_agree : (h : Option Header) → IfSome h (IsOwnHeader own) → option_map (header_as tree') h ≡ option_map (header_as tree) h
  some_agree None is = refl
  some_agree (Some h) is = ap Some (header_agrees own tree tree' keeps.trees h is)

  pub headers_agree : headers_as tree' headers ≡ headers_as tree headers
  headers_agree = λ i d. some_agree (header_in headers d) (are d) i

  some_stay : (h : Option Header) → IfSome h (IsOwnHeader own) → IfSome h (IsOwnHeader own')
  some_stay None is = tt
  some_stay (Some h) is = header_stays_own own own' keeps.types h is

  pub headers_stay_own : AreOwnHeaders own' headers
  headers_stay_own d = some_stay (header_in headers d) (are d)

-- behind one more header
module _ (old new : Headers) (d : ℕ) (header : Header) (added : (e : ℕ) → header_in new e ≡ (if d == e then Some header else header_in old e)) where
  pub headers_added : (tree : Term → TypeData) (e : ℕ) → headers_as tree new e ≡ headers_of (headers_as tree old) ((d, header_as tree header) ∷ []) e
  headers_added tree e = ap (option_map (header_as tree)) (added e) ∙ chosen (header_as tree) (d == e) header (header_in old e)

  some_own : (own : Term → Type 0) (b : Bool) (rest : Option Header) → IsOwnHeader own header → IfSome rest (IsOwnHeader own) → IfSome (if b then Some header else rest) (IsOwnHeader own)
  some_own own true rest is others = is
  some_own own false rest is others = others

  pub own_added : (own : Term → Type 0) → IsOwnHeader own header → AreOwnHeaders own old → AreOwnHeaders own new
  own_added own is are e = subst (λ (h : Option Header). IfSome h (IsOwnHeader own)) (sym (added e)) (some_own own (d == e) (header_in old e) is (are e))

-- a map that has no header for a declaration, where types stand for these
pub vacant_in : (tree : Term → TypeData) (headers : Headers) (d : ℕ) → headers_as tree headers d ≡ None → header_in headers d ≡ None
vacant_in tree headers d is = by_header (header_in headers d) is
  where
    by_header : (h : Option Header) → option_map (header_as tree) h ≡ None → h ≡ None
    by_header None e = refl
    by_header (Some h) e = absurd (let never : Some (header_as tree h) ≡ None = e in cc)
