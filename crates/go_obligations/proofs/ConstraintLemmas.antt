-- Interfaces that are not basic, by their underlying types and by what they embed.
use Rattle.std.proofs.Common.{◌≡◌, Bool, true, false, Contains, Some, None, List, ap, subst, ◌∙◌}
use Rattle.std.specs.Prelude.{◌↔◌}
use Rattle.std.specs.List.{list_any}
use Rattle.go_term.specs.Types.{TypeData}
use Rattle.go_term.specs.declared.term.Term.{Term}
use Rattle.go_model.specs.Obligations.Constraints.{IsConstraint, adds_terms, is_parameter}
use Rattle.go_model.specs.Obligations.Embedded.{Embeds}
use Rattle.go_judge.specs.Headers.{Headers}
use Rattle.go_judge.specs.Types.Forms.{form_as, form_asked, underlying_over}
use Rattle.go_judge.specs.Types.TypeSets.{is_interface}
use Rattle.go_judge.specs.Types.UnderlyingType.{Reach, Reaches, Returns, Exceeds, under}
use Rattle.go_judge.specs.Quests.{Asked, Decided, Lacks, run}
use Rattle.go_judge.specs.declared.form.Form.{Form}
use Rattle.go_judge.specs.declared.form.Form.TheVariants as F
use Rattle.go_obligations.specs.ConstraintParts.{IsGeneral, IsGeneralForm}
use Rattle.go_obligations.proofs.ListLemmas.{any-contains, contains-any}

-- an answer that is a type is where a chain leads
reaches : (r : Asked Reach) (u : TypeData) → Decided (Some u) ≡ form_asked r → r ≡ Decided (Reaches u)
reaches (Decided (Reaches t)) u e = let same : Decided (Some u) ≡ Decided (Some t) = e in let is : t ≡ u = cc in ap (λ v. Decided (Reaches v)) is
reaches (Decided Returns) u e = absurd (let never : Decided (Some u) ≡ Decided None = e in cc)
reaches (Decided (Exceeds fault)) u e = absurd (let never : Decided (Some u) ≡ Decided None = e in cc)
reaches (Lacks d) u e = absurd (let never : Decided (Some u) ≡ Lacks d = e in cc)

asked : (r : Asked Reach) (u : TypeData) → r ≡ Decided (Reaches u) → form_asked r ≡ Decided (Some u)
asked r u e = ap form_asked e

module _ (headers : Headers) (t : TypeData) (tree : Term → TypeData) where
  -- by the underlying type
  general_constraint : (form : Form) → is_parameter t ≡ false → form_as tree form ≡ underlying_over headers t → IsGeneralForm headers tree form → IsConstraint headers t
  general_constraint (F.Is u) other e general = record {
    literal = tree u;
    part = general.part;
    no_parameter = other;
    is_literal = reaches (run headers (under t)) (tree u) e;
    an_interface = general.an_interface;
    embeds = general.embeds;
    adds = general.adds;
  }
  general_constraint F.Absent other e general = absurd general
  general_constraint (F.Unknown d) other e general = absurd general

  constraint_general : (form : Form) → form_as tree form ≡ underlying_over headers t → IsConstraint headers t → IsGeneralForm headers tree form
  constraint_general (F.Is u) e constraint =
      let some : Decided (Some (tree u)) ≡ Decided (Some constraint.literal) = e ∙ asked (run headers (under t)) constraint.literal constraint.is_literal in
      let same : constraint.literal ≡ tree u = cc in
      subst (IsGeneral headers) same (record { part = constraint.part; an_interface = constraint.an_interface; embeds = constraint.embeds; adds = constraint.adds })
  constraint_general F.Absent e constraint =
      absurd (let never : Decided None ≡ Decided (Some constraint.literal) = e ∙ asked (run headers (under t)) constraint.literal constraint.is_literal in cc)
  constraint_general (F.Unknown d) e constraint =
      absurd (let never : Lacks d.0 ≡ Decided (Some constraint.literal) = e ∙ asked (run headers (under t)) constraint.literal constraint.is_literal in cc)

  pub constraint_by_form : (form : Form) (headers' : Headers) (answer : Bool) → is_parameter t ≡ false → headers' ≡ headers → form_as tree form ≡ underlying_over headers t → ((answer ≡ true) ↔ IsGeneralForm headers' tree form) → (answer ≡ true) ↔ IsConstraint headers t
  constraint_by_form form headers' answer other same e general =
      let here : (answer ≡ true) ↔ IsGeneralForm headers tree form = subst (λ (h : Headers). (answer ≡ true) ↔ IsGeneralForm h tree form) same general in
      (λ y. general_constraint form other e (here.0 y), λ c. here.1 (constraint_general form e c))

-- a type parameter is none
pub no_constraint : (headers : Headers) (t : TypeData) → is_parameter t ≡ true → (false ≡ true) ↔ IsConstraint headers t
no_constraint headers t is = (λ e. absurd (cc), λ c. absurd (let not = c.no_parameter in cc))

-- a type that is no interface is none
pub no_general : (headers : Headers) (u : TypeData) → is_interface u ≡ false → (false ≡ true) ↔ IsGeneral headers u
no_general headers u is = (λ e. absurd (cc), λ g. absurd (let other = g.an_interface in cc))

-- an interface is not basic where one of the types that it embeds adds terms
pub general_by_parts : (headers : Headers) (u : TypeData) (found : List TypeData) → is_interface u ≡ true → ((v : TypeData) → Contains found v ↔ Embeds headers u v)
    → (list_any adds_terms found ≡ true) ↔ IsGeneral headers u
general_by_parts headers u found is exact = (
  λ e. (let some = any-contains adds_terms found e in record { part = some.0; an_interface = is; embeds = (exact some.0).0 some.1; adds = some.2 }),
  λ g. contains-any adds_terms found g.part ((exact g.part).1 g.embeds) g.adds,
)

-- where the same headers are known and the type stands for the same
pub general_moved : {headers headers' : Headers} {u u' : TypeData} (answer : Bool) → headers' ≡ headers → u' ≡ u → ((answer ≡ true) ↔ IsGeneral headers' u') → (answer ≡ true) ↔ IsGeneral headers u
general_moved {headers} {headers'} {u} {u'} answer same stands is =
    subst (λ (v : TypeData). (answer ≡ true) ↔ IsGeneral headers v) stands
    (subst (λ (h : Headers). (answer ≡ true) ↔ IsGeneral h u') same is)

pub constraint_moved : {headers headers' : Headers} {t t' : TypeData} (answer : Bool) → headers' ≡ headers → t' ≡ t → ((answer ≡ true) ↔ IsConstraint headers' t') → (answer ≡ true) ↔ IsConstraint headers t
constraint_moved {headers} {headers'} {t} {t'} answer same stands is =
    subst (λ (v : TypeData). (answer ≡ true) ↔ IsConstraint headers v) stands
    (subst (λ (h : Headers). (answer ≡ true) ↔ IsConstraint h t') same is)
