-- Answers that are kept: each stays right as one is added, and tells what an obligation with its key comes to.
use Rattle.std.proofs.Common.{◌≡◌, Bool, true, false, Option, Some, None, refl, sym, ap, ◌∙◌, subst, rules}
use Rattle.std.specs.Prelude.{◌↔◌, ◌&&◌, IfSome, if◌then◌else◌}
use Rattle.std.proofs.lemmas.Bool.{and_parts}
use denote.Enum.Bare.{sameb, same_true}
use Rattle.go_base.specs.declared.ids.ObjId.{ObjId}
use Rattle.go_module.specs.Scopes.{same_object}
use Rattle.go_term.specs.Shapes.{shape_tree}
use Rattle.go_term.specs.Types.{TypeData, of_one, pointer}
use Rattle.go_term.specs.declared.shape.Shape.{Shape}
use Rattle.go_term.specs.declared.shape.Shape.TheVariants as S
use Rattle.go_term.specs.declared.term.Term.{Term}
use Rattle.go_judge.specs.Headers.{Headers}
use Rattle.go_judge.proofs.EntryLemmas.{same_is}
use Rattle.go_obligations.specs.contracts.answers.NamedDemand.{the_type}
use Rattle.go_obligations.specs.declared.answers.Answers.{Answers}
use Rattle.go_obligations.specs.declared.answers.NamedDemand.{NamedDemand}
use Rattle.go_obligations.specs.declared.answers.NamedDemand.TheVariants.{EmbeddableBehindStar}
use Rattle.go_obligations.specs.declared.answers.NamedKey.{NamedKey}
use Rattle.go_obligations.specs.declared.obligation.Demand.{Demand}
use Rattle.go_obligations.specs.Answers.{AreAnswers, FailsAt, IsKeyOf, answer_kept, demand_of, named_type, same_key, type_by}
use Rattle.go_obligations.specs.Owed.{Fails}

same_key_is : (a b : NamedKey) → same_key a b ≡ true → a ≡ b
same_key_is a b e =
    let parts = and_parts (sameb the_type a.demand b.demand) (same_object a.object b.object) e in
    let demand : a.demand ≡ b.demand = same_true the_type (search rules) a.demand b.demand parts.0 in
    let object : a.object ≡ b.object = same_is a.object b.object parts.1 in
    let key : NamedDemand → ObjId → NamedKey = λ n d. record { demand = n; object = d } in
    ap (λ n. key n a.object) demand ∙ ap (key b.demand) object

module _ (headers : Headers) where
  -- with one more, that is right
  pub one_more : (before after : Answers) (key : NamedKey) (fails : Bool) → ((other : NamedKey) → answer_kept after other ≡ (if same_key key other then Some fails else answer_kept before other))
      → ((fails ≡ true) ↔ FailsAt headers key) → AreAnswers headers before → AreAnswers headers after
  one_more before after key fails added right all other kept at = by_key (same_key key other) refl
    where
      among : (b : Bool) → same_key key other ≡ b → (if b then Some fails else answer_kept before other) ≡ Some kept
      among b e = ap (λ c. if c then Some fails else answer_kept before other) (sym e) ∙ sym (added other) ∙ at

      by_key : (b : Bool) → same_key key other ≡ b → (kept ≡ true) ↔ FailsAt headers other
      by_key true e =
          let here : Some fails ≡ Some kept = among true e in
          let same : fails ≡ kept = cc in
          let right_here : (fails ≡ true) ↔ FailsAt headers other = subst (λ (k : NamedKey). (fails ≡ true) ↔ FailsAt headers k) (same_key_is key other e) right in
          subst (λ (b : Bool). (b ≡ true) ↔ FailsAt headers other) same right_here
      by_key false e = all other kept (among false e)

  -- what a demand on a type comes to is what is kept at its key
  pub by_its_key : (demand : Demand) (t : TypeData) (key : NamedKey) (fails : Bool) → IsKeyOf demand t key → ((fails ≡ true) ↔ FailsAt headers key) → (fails ≡ true) ↔ Fails headers demand t
  by_its_key demand t key fails is right =
      subst (λ (d : Demand). (fails ≡ true) ↔ Fails headers d t) (sym is.demanded)
      (subst (λ (u : TypeData). (fails ≡ true) ↔ Fails headers (demand_of key.demand) u) (sym is.stands) right)

  pub at_its_key : (demand : Demand) (t : TypeData) (key : NamedKey) (fails : Bool) → IsKeyOf demand t key → ((fails ≡ true) ↔ Fails headers demand t) → (fails ≡ true) ↔ FailsAt headers key
  at_its_key demand t key fails is right =
      subst (λ (u : TypeData). (fails ≡ true) ↔ Fails headers (demand_of key.demand) u) is.stands
      (subst (λ (d : Demand). (fails ≡ true) ↔ Fails headers d t) is.demanded right)

-- where the same headers are known and the type stands for the same
pub fails_moved : {headers headers' : Headers} {t t' : TypeData} (demand : Demand) (answer : Bool) → headers' ≡ headers → t' ≡ t → ((answer ≡ true) ↔ Fails headers' demand t') → (answer ≡ true) ↔ Fails headers demand t
fails_moved {headers} {headers'} {t} {t'} demand answer same stands is =
    subst (λ (u : TypeData). (answer ≡ true) ↔ Fails headers demand u) stands
    (subst (λ (h : Headers). (answer ≡ true) ↔ Fails h demand t') same is)

-- a pointer type by the name of its base type
pub star_stands : (tree : Term → TypeData) (shape : Shape) (base : Term) (name : Option ObjId) → shape ≡ S.Pointer base → IfSome name (λ d. tree base ≡ named_type d)
    → IfSome name (λ d. shape_tree tree shape ≡ type_by EmbeddableBehindStar (named_type d))
star_stands tree shape base None is named = tt
star_stands tree shape base (Some d) is named = ap (shape_tree tree) is ∙ ap (of_one pointer) named
