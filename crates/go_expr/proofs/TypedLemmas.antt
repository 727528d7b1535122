-- Operands that are to be types.
use Rattle.std.proofs.Common.{◌≡◌, ℕ, ◌+◌, Option, Some, None, List, [], ◌∷◌, ◌++◌, length, map, refl, sym, ap, ◌∙◌, arith}
use Rattle.std.specs.Prelude.{is_some, unwrap_or}
use Rattle.go_term.specs.Types.{TypeData, list, of_list}
use Rattle.go_judge.specs.declared.outcome.Spot.{Spot}
use Rattle.go_judge.specs.declared.outcome.Spot.TheVariants.{Part}
use Rattle.go_judge.specs.declared.rec.Mode.{Mode}
use Rattle.go_judge.specs.declared.rec.Mode.TheVariants.{IsType}
use Rattle.go_judge.specs.Kinds.{no_type}
use Rattle.go_judge.specs.Limits.{makes_of}
use Rattle.go_judge.specs.Judged.{Broken, asked, end_on, first_lack, no_spots, rule_end, ruled, spot_if_no}
use Rattle.go_judge.specs.Operands.{are_types, is_type, spots_from, type_or_none}
use Rattle.go_judge.specs.Records.{RecData, type_by, type_in}
use Rattle.go_judge.specs.Headers.{Headers}
use Rattle.go_judge.specs.Quests.{Decided}
use Rattle.go_expr.specs.Given.{no_type_spots, one_or_none, spot_if_none, types_among}
use Rattle.go_expr.specs.TypeLiteral.{type_outcome}

-- the type that a record stands for is its type
type_by-is : (mode : Mode) (type : Option TypeData) (t : TypeData) → type_by mode type ≡ Some t → unwrap_or type (of_list list []) ≡ t
type_by-is IsType type t is = ap (λ o. unwrap_or o (of_list list [])) is
type_by-is mode type t is = absurd (let never : None ≡ Some t = is in cc)

one_type : (place : ℕ) (r : RecData) (rest : List Spot) (o : Option TypeData) → type_in r ≡ o → spot_if_none (Part place) o ++ rest ≡ [] → (one_or_none o ≡ type_or_none r ∷ []) × (rest ≡ [])
one_type place r rest (Some t) is none = (ap (λ x. x ∷ []) (sym (type_by-is r.mode r.type t is)), none)
one_type place r rest None is none = absurd (let never : Part place ∷ rest ≡ [] = none in cc)

-- where each is a type, they are the types of all
pub types-are : (place : ℕ) (rs : List RecData) → no_type_spots place rs ≡ [] → types_among rs ≡ map type_or_none rs
types-are place [] none = refl
types-are place (r ∷ rs) none =
    let first = one_type place r (no_type_spots (place + 1) rs) (type_in r) refl none in
    (λ i. first.0 i ++ types-are (place + 1) rs first.1 i)

spot-is : (spot : Spot) (o : Option TypeData) → spot_if_no spot (Decided (is_some o)) ≡ spot_if_none spot o
spot-is spot (Some t) = refl
spot-is spot None = refl

spots-are : (headers : Headers) (place : ℕ) (rs : List RecData) → no_spots headers (spots_from is_type place rs) ≡ no_type_spots place rs
spots-are headers place [] = refl
spots-are headers place (r ∷ rs) = (λ i. spot-is (Part place) (type_in r) i ++ spots-are headers (place + 1) rs i)

nothing-lacks : (headers : Headers) (place : ℕ) (rs : List RecData) → first_lack headers (spots_from is_type place rs) ≡ None
nothing-lacks headers place [] = refl
nothing-lacks headers place (r ∷ rs) = nothing-lacks headers (place + 1) rs

types-end : (headers : Headers) (rs : List RecData) (spots : List Spot) → spots ≡ no_type_spots 0 rs → rule_end spots None ≡ end_on headers (are_types 0 rs)
types-end headers rs spots is = (λ i. rule_end ((is ∙ sym (spots-are headers 0 rs)) i) (sym (nothing-lacks headers 0 rs) i))

-- by the places of those that are none
pub by-spots : (headers : Headers) (rs : List RecData) (type : TypeData) (spots : List Spot) → spots ≡ no_type_spots 0 rs
    → ruled no_type (rule_end spots None) (type_outcome headers type) ≡ asked headers (Some (makes_of rs type))
by-spots headers rs type spots is = ap (λ e. ruled no_type e (type_outcome headers type)) (types-end headers rs spots is)

pub some-spots : (headers : Headers) (type : TypeData) (spots : List Spot) → (spots ≡ [] → ⊥) → Broken no_type spots ≡ ruled no_type (rule_end spots None) (type_outcome headers type)
some-spots headers type [] some = absurd (some refl)
some-spots headers type (s ∷ ss) some = refl

pub no-items : {X : Type 0} (xs : List X) → length xs ≡ 0 → xs ≡ []
no-items [] zero = refl
no-items (x ∷ xs) zero = absurd (omega (arith, zero))
