-- Whether a type may be embedded, by what its underlying type comes to.
use Rattle.std.proofs.Common.{◌≡◌, Bool, true, false, Option, Some, None, refl, sym}
use Rattle.std.specs.Option.{option_map_or}
use Rattle.go_term.specs.Types.{Head, basic, pointer, slice, array, map_type, channel, function, struct_type, interface_type, tuple, named, param, bound, list, field, method, union, union_term, TypeData, Parts, made}
use Rattle.go_model.specs.Obligations.Constraints.{is_parameter}
use Rattle.go_model.specs.Obligations.Embedding.{embeds_as, may_embed}
use Rattle.go_judge.specs.Records.{HeaderData}
use Rattle.go_judge.specs.Headers.{Headers}
use Rattle.go_judge.specs.Types.Forms.{answer_as, form_asked, found_in, underlying_over}
use Rattle.go_judge.specs.Types.TypeIdentity.{Test}
use Rattle.go_judge.specs.Types.UnderlyingType.{Reach, Reaches, Returns, Exceeds, under}
use Rattle.go_judge.specs.Quests.{Asked, Decided, Lacks, Quest, Done, Need, run, then_ask}
use Rattle.go_obligations.specs.EmbeddingParts.{answer_of, embeds_asked}

pub answer-told : (yes : Bool) → answer_as (answer_of yes) ≡ Decided yes
answer-told true = refl
answer-told false = refl

module _ (headers : Headers) (starred : Bool) where
  abbrev embedding : Reach → Test
  embedding reach = Done (option_map_or (embeds_as starred) (found_in reach) true)

  -- by where a chain leads
  asked_by : (q : Quest HeaderData Reach) → run headers (then_ask q embedding) ≡ embeds_asked starred (form_asked (run headers q))
  asked_by (Done (Reaches t)) = refl
  asked_by (Done Returns) = refl
  asked_by (Done (Exceeds fault)) = refl
  asked_by (Need d go_on) = go (headers d) (λ h. asked_by (go_on h))
    where
      go : (o : Option HeaderData) → ((h : HeaderData) → run headers (then_ask (go_on h) embedding) ≡ embeds_asked starred (form_asked (run headers (go_on h))))
          → elim o as (λ _. Asked Bool) [ None ↦ Lacks d | Some h ↦ run headers (then_ask (go_on h) embedding) ]
          ≡ embeds_asked starred (form_asked (elim o as (λ _. Asked Reach) [ None ↦ Lacks d | Some h ↦ run headers (go_on h) ]))
      go None each = refl
      go (Some h) each = each h

  -- a type parameter may not be embedded, another type may by its underlying type
  parameter_by_head : (head : Head) (parts : Parts) → is_parameter (made head parts) ≡ true → run headers (may_embed starred (made head parts)) ≡ Decided false
  parameter_by_head (basic b) parts e = absurd (let never : false ≡ true = e in cc)
  parameter_by_head pointer parts e = absurd (let never : false ≡ true = e in cc)
  parameter_by_head slice parts e = absurd (let never : false ≡ true = e in cc)
  parameter_by_head (array n) parts e = absurd (let never : false ≡ true = e in cc)
  parameter_by_head map_type parts e = absurd (let never : false ≡ true = e in cc)
  parameter_by_head (channel d) parts e = absurd (let never : false ≡ true = e in cc)
  parameter_by_head (function v) parts e = absurd (let never : false ≡ true = e in cc)
  parameter_by_head struct_type parts e = absurd (let never : false ≡ true = e in cc)
  parameter_by_head interface_type parts e = absurd (let never : false ≡ true = e in cc)
  parameter_by_head tuple parts e = absurd (let never : false ≡ true = e in cc)
  parameter_by_head (named d) parts e = absurd (let never : false ≡ true = e in cc)
  parameter_by_head (param d i) parts e = refl
  parameter_by_head (bound k) parts e = absurd (let never : false ≡ true = e in cc)
  parameter_by_head list parts e = absurd (let never : false ≡ true = e in cc)
  parameter_by_head (field f) parts e = absurd (let never : false ≡ true = e in cc)
  parameter_by_head (method m) parts e = absurd (let never : false ≡ true = e in cc)
  parameter_by_head union parts e = absurd (let never : false ≡ true = e in cc)
  parameter_by_head (union_term tilde) parts e = absurd (let never : false ≡ true = e in cc)

  other_by_head : (head : Head) (parts : Parts) → is_parameter (made head parts) ≡ false → run headers (may_embed starred (made head parts)) ≡ embeds_asked starred (underlying_over headers (made head parts))
  other_by_head (basic b) parts e = asked_by (under (made (basic b) parts))
  other_by_head pointer parts e = asked_by (under (made pointer parts))
  other_by_head slice parts e = asked_by (under (made slice parts))
  other_by_head (array n) parts e = asked_by (under (made (array n) parts))
  other_by_head map_type parts e = asked_by (under (made map_type parts))
  other_by_head (channel d) parts e = asked_by (under (made (channel d) parts))
  other_by_head (function v) parts e = asked_by (under (made (function v) parts))
  other_by_head struct_type parts e = asked_by (under (made struct_type parts))
  other_by_head interface_type parts e = asked_by (under (made interface_type parts))
  other_by_head tuple parts e = asked_by (under (made tuple parts))
  other_by_head (named d) parts e = asked_by (under (made (named d) parts))
  other_by_head (param d i) parts e = absurd (let never : true ≡ false = e in cc)
  other_by_head (bound k) parts e = asked_by (under (made (bound k) parts))
  other_by_head list parts e = asked_by (under (made list parts))
  other_by_head (field f) parts e = asked_by (under (made (field f) parts))
  other_by_head (method m) parts e = asked_by (under (made (method m) parts))
  other_by_head union parts e = asked_by (under (made union parts))
  other_by_head (union_term tilde) parts e = asked_by (under (made (union_term tilde) parts))

  pub embeds-parameter : (t : TypeData) → is_parameter t ≡ true → Decided false ≡ run headers (may_embed starred t)
  embeds-parameter (made head parts) e = sym (parameter_by_head head parts e)

  pub embeds-other : (t : TypeData) → is_parameter t ≡ false → embeds_asked starred (underlying_over headers t) ≡ run headers (may_embed starred t)
  embeds-other (made head parts) e = sym (other_by_head head parts e)
