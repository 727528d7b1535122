-- What stays of records and headers as the map of headers grows: a declaration has at most one header.
use Rattle.std.proofs.Common.{◌≡◌, ℕ, Option, Some, None, List, [], ◌∷◌, ◌++◌, ◌⊎◌, refl, sym, ap, ◌∙◌, subst, inl, inr, ⊎_elim}
use Rattle.std.specs.Prelude.{option_and_then}
use Rattle.std.proofs.lemmas.Bool.{cases_eq, eq-eqb, ne_eqb}
use Rattle.go_tree.specs.Tree.{Tree}
use Rattle.go_judge.specs.Naming.{Naming}
use Rattle.go_module.specs.Names.Declarations.{Declaration}
use Rattle.go_judge.specs.Judged.{Broken, Found, Nothing, OutcomeData, Waits}
use Rattle.go_model.specs.Outcomes.Readings.{record_in}
use Rattle.go_judge.specs.Records.{HeaderData, RecData}
use Rattle.go_judge.specs.Headers.{Headers, headers_of}
use Rattle.go_model.specs.Outcomes.Walk.{outcome}
use Rattle.go_values.specs.Records.{header_over, record_of, tells_by, told_by}
use Rattle.go_values.specs.Headers.{Follows, Justified, Known}
use Rattle.go_judge.specs.Quests.{IsPart}
use Rattle.go_model.proofs.OutcomeLemmas.{outcome_stays}

record_in-found : {R : Type 0} (x : OutcomeData R) (r : R) → record_in x ≡ Some r → x ≡ Found r
record_in-found (Found q) r e = let same : Some q ≡ Some r = e in let is : q ≡ r = cc in ap Found is
record_in-found (Broken rule spots) r e = absurd (let never : None ≡ Some r = e in cc)
record_in-found (Waits d) r e = absurd (let never : None ≡ Some r = e in cc)
record_in-found Nothing r e = absurd (let never : None ≡ Some r = e in cc)

-- a record stays as the map grows
pub record_of-part : (naming : Naming) (known more : Headers) → IsPart known more → (t : Tree) (r : RecData) → record_of naming known t ≡ Some r → record_of naming more t ≡ Some r
record_of-part naming known more part t r e =
    ap record_in ((outcome_stays naming known more part t).found r (record_in-found (outcome naming known t) r e))

-- and so does the header that a declaration has by it
told-part : (tell : RecData → Option HeaderData) (x y : Option RecData) → ((r : RecData) → x ≡ Some r → y ≡ Some r) → (h : HeaderData) → option_and_then tell x ≡ Some h → option_and_then tell y ≡ Some h
told-part tell None y more h e = absurd (let never : None ≡ Some h = e in cc)
told-part tell (Some r) y more h e = ap (option_and_then tell) (more r refl) ∙ e

value-part : (naming : Naming) (known more : Headers) → IsPart known more → (t : Option Tree) (r : RecData) → option_and_then (record_of naming known) t ≡ Some r → option_and_then (record_of naming more) t ≡ Some r
value-part naming known more part None r e = e
value-part naming known more part (Some t) r e = record_of-part naming known more part t r e

pub header_over-part : (naming : Naming) (known more : Headers) → IsPart known more → (d : Declaration) (h : HeaderData) → header_over naming known d ≡ Some h → header_over naming more d ≡ Some h
header_over-part naming known more part d h e =
    let node = tells_by d.kind d.built d.types d.values in
    told-part (told_by d.kind) (option_and_then (record_of naming known) node) (option_and_then (record_of naming more) node)
    (value-part naming known more part node) h e

-- what a longer list has for a declaration
pub headers_of-here : (before : Headers) (p : ℕ × HeaderData) (list : List (ℕ × HeaderData)) (d : ℕ) → p.0 ≡ d → headers_of before (p ∷ list) d ≡ Some p.1
headers_of-here before p list d e = rw (eq-eqb p.0 d e) refl

pub headers_of-there : (before : Headers) (p : ℕ × HeaderData) (list : List (ℕ × HeaderData)) (d : ℕ) → (p.0 ≡ d → ⊥) → headers_of before (p ∷ list) d ≡ headers_of before list d
headers_of-there before p list d ne = rw (ne_eqb p.0 d ne) refl

module _ (before : Headers) (naming : Naming) (declarations : List Declaration) where
  pub Follows-part : (known more : Headers) → IsPart known more → (d : ℕ) (h : HeaderData) → Follows before naming declarations known d h → Follows before naming declarations more d h
  Follows-part known more part d h f =
      record { declaration = f.declaration; declared = f.declared; fresh = f.fresh; tells = header_over-part naming known more part f.declaration h f.tells }

  -- over one map a declaration has one header
  pub Follows-same : (known : Headers) (d : ℕ) (h h' : HeaderData) → Follows before naming declarations known d h → Follows before naming declarations known d h' → h ≡ h'
  Follows-same known d h h' f g =
      let same : f.declaration ≡ g.declaration = cc (f.declared, g.declared) in
      let at : header_over naming known f.declaration ≡ header_over naming known g.declaration = ap (header_over naming known) same in
      cc (f.tells, g.tells)

  -- a list stays a part of itself with one more pair
  grows : (p : ℕ × HeaderData) (list : List (ℕ × HeaderData)) → Follows before naming declarations (headers_of before list) p.0 p.1 → ((d : ℕ) (h : HeaderData) → headers_of before list d ≡ Some h → (before d ≡ Some h) ⊎ Follows before naming declarations (headers_of before list) d h) → IsPart (headers_of before list) (headers_of before (p ∷ list))
  grows p list f stay d h e =
      ⊎_elim
      (λ here. let g = subst (λ n. Follows before naming declarations (headers_of before list) n p.1) here f in
      headers_of-here before p list d here ∙ ap Some (by_either g (stay d h e)))
      (λ ne. headers_of-there before p list d ne ∙ e)
      (cases_eq p.0 d)
    where
      by_either : Follows before naming declarations (headers_of before list) d p.1 → (before d ≡ Some h) ⊎ Follows before naming declarations (headers_of before list) d h → p.1 ≡ h
      by_either g (inl was) = absurd (let never : None ≡ Some h = sym g.fresh ∙ was in cc)
      by_either g (inr k) = Follows-same (headers_of before list) d p.1 h g k

  -- each header of a justified list was known before, or follows from the whole list too
  pub stays : (list : List (ℕ × HeaderData)) → Justified before naming declarations list → (d : ℕ) (h : HeaderData) → headers_of before list d ≡ Some h → (before d ≡ Some h) ⊎ Follows before naming declarations (headers_of before list) d h
  stays [] j d h e = inl e
  stays (p ∷ list) j d h e =
      let part = grows p list j.1 (stays list j.0) in
      ⊎_elim
      (λ here. let same : p.1 ≡ h = cc (headers_of-here before p list d here, e) in
      let g = subst (λ n. Follows before naming declarations (headers_of before list) n p.1) here j.1 in
      inr (Follows-part (headers_of before list) (headers_of before (p ∷ list)) part d h (subst (λ v. Follows before naming declarations (headers_of before list) d v) same g)))
      (λ ne. let e' = sym (headers_of-there before p list d ne) ∙ e in
      over part (stays list j.0 d h e'))
      (cases_eq p.0 d)
    where
      over : IsPart (headers_of before list) (headers_of before (p ∷ list)) → (before d ≡ Some h) ⊎ Follows before naming declarations (headers_of before list) d h → (before d ≡ Some h) ⊎ Follows before naming declarations (headers_of before (p ∷ list)) d h
      over part (inl was) = inl was
      over part (inr f) = inr (Follows-part (headers_of before list) (headers_of before (p ∷ list)) part d h f)

  -- what is known before stays
  pub kept : (list : List (ℕ × HeaderData)) → Justified before naming declarations list → IsPart before (headers_of before list)
  kept [] j d h e = e
  kept (p ∷ list) j d h e = grows p list j.1 (stays list j.0) d h (kept list j.0 d h e)

  -- a map has all headers of a justified list where it has those before and each that follows from it
  pub has_all : (known : Headers) → IsPart before known → ((d : ℕ) (h : HeaderData) → Follows before naming declarations known d h → known d ≡ Some h) → (list : List (ℕ × HeaderData)) → Justified before naming declarations list → IsPart (headers_of before list) known
  has_all known base closed [] j d h e = base d h e
  has_all known base closed (p ∷ list) j d h e =
      let part = has_all known base closed list j.0 in
      ⊎_elim
      (λ here. let same : p.1 ≡ h = cc (headers_of-here before p list d here, e) in
      let f = Follows-part (headers_of before list) known part p.0 p.1 j.1 in
      closed d h (subst (λ v. Follows before naming declarations known d v) same (subst (λ n. Follows before naming declarations known n p.1) here f)))
      (λ ne. part d h (sym (headers_of-there before p list d ne) ∙ e))
      (cases_eq p.0 d)

  -- each header that follows from a map, which is known from a justified list, follows from it alone
  pub closed_under : (list : List (ℕ × HeaderData)) → Justified before naming declarations list → (other : List (ℕ × HeaderData)) → Justified before naming declarations other → IsPart (headers_of before other) (headers_of before (other ++ list))
  closed_under list j [] k d h e = kept list j d h e
  closed_under list j (p ∷ other) k d h e =
      ⊎_elim
      (λ here. headers_of-here before p (other ++ list) d here ∙ sym (headers_of-here before p other d here) ∙ e)
      (λ ne. headers_of-there before p (other ++ list) d ne ∙ closed_under list j other k.0 d h (sym (headers_of-there before p other d ne) ∙ e))
      (cases_eq p.0 d)

  -- two justified lists, one after the other, are justified
  pub both_justified : (list : List (ℕ × HeaderData)) → Justified before naming declarations list → (other : List (ℕ × HeaderData)) → Justified before naming declarations other → Justified before naming declarations (other ++ list)
  both_justified list j [] k = j
  both_justified list j (p ∷ other) k = (
    both_justified list j other k.0,
    Follows-part (headers_of before other) (headers_of before (other ++ list)) (closed_under list j other k.0) p.0 p.1 k.1,
  )

  -- the later of two justified lists is part of both together
  pub later_part : (list : List (ℕ × HeaderData)) → Justified before naming declarations list → (other : List (ℕ × HeaderData)) → Justified before naming declarations other → IsPart (headers_of before list) (headers_of before (other ++ list))
  later_part list j [] k d h e = e
  later_part list j (p ∷ other) k d h e =
      let both = both_justified list j (p ∷ other) k in
      grows p (other ++ list) both.1 (stays (other ++ list) both.0) d h (later_part list j other k.0 d h e)

  -- an object has at most one header
  pub Known-same : (d : ℕ) (h h' : HeaderData) → Known before naming declarations d h → Known before naming declarations d h' → h ≡ h'
  Known-same d h h' k k' =
      let one = closed_under k'.list k'.justified k.list k.justified d h k.has in
      let other = later_part k'.list k'.justified k.list k.justified d h' k'.has in
      cc (one, other)
