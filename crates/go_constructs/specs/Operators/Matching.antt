-- Operators; Constant expressions; Comparison operators (Go specification).
-- Decides which two operands match: "the operand types must be identical unless the operation involves shifts or
-- untyped constants". "If one operand is an untyped constant and the other operand is not, the constant is implicitly
-- converted to the type of the other operand"; own: an untyped constant matches a typed operand where both are boolean,
-- both numbers or both strings, and two untyped operands match where both are integers or runes, or both of one kind.
-- Which type both have then: "if the operands of a binary operation are different kinds of untyped constants, the
-- operation and, for non-boolean operations, the result use the kind that appears later in this list: integer, rune,
-- .."; own: there are no later ones.
use Rattle.std.specs.Prelude.{◌&&◌, not, Bool, true, false, Option, Some, None, List, [], ◌∷◌}
use Rattle.go_base.specs.declared.rule.Rule.{Rule}
use Rattle.go_num.specs.declared.value.NumKind.{NumKind}
use Rattle.go_num.specs.declared.value.NumKind.TheVariants as K
use Rattle.go_num.specs.declared.value.Value.{Value}
use Rattle.go_term.specs.Types.{Head, TypeData, basic_type, made, tuple}
use Rattle.go_term.specs.declared.basic.Basic.{Basic}
use Rattle.go_term.specs.declared.basic.Basic.TheVariants as B
use Rattle.go_judge.specs.declared.outcome.Spot.TheVariants.{Part}
use Rattle.go_judge.specs.Judged.{RuleTest}
use Rattle.go_judge.specs.Operands.{at_each, at_whole, type_or_none}
use Rattle.go_judge.specs.Records.{HeaderData, RecData}
use Rattle.go_judge.specs.Types.TypeIdentity.{Test, identical}
use Rattle.go_judge.specs.Quests.{Done, then_ask}
use Rattle.go_constructs.specs.Operators.Representable.{fit_of, not_overflows, not_unkept}
use Rattle.go_constructs.specs.Operators.Rules.{constant_overflow, mismatched_operands, several_values, unkept_float}
use Rattle.go_constructs.specs.Operators.Sorts.{by_sorts, sorts_of}
use Rattle.go_constructs.specs.declared.fit.Fit.{Fit}
use Rattle.go_constructs.specs.declared.fit.Fit.TheVariants.{Fits}
use Rattle.go_constructs.specs.declared.sort.Sort.{Sort}
use Rattle.go_constructs.specs.declared.sort.Sort.TheVariants as S

-- SINGLE VALUES

abbrev pub is_tuple : Head → Bool
is_tuple tuple = true
is_tuple head = false

abbrev pub is_single_type : Option TypeData → Bool
is_single_type (Some (made head parts)) = not (is_tuple head)
is_single_type None = true

-- R2 at each of these operands
abbrev pub are_single : {H : Type 0} → List RecData → RuleTest H
are_single rs = at_each several_values (λ r. is_single_type r.type) 0 rs

-- MATCHING

abbrev pub is_number : NumKind → Bool
is_number K.Int = true
is_number K.Rune = true
is_number kind = false

abbrev pub same_kind : NumKind → NumKind → Bool
same_kind K.Bool K.Bool = true
same_kind K.Text K.Text = true
same_kind K.Nil K.Nil = true
same_kind k l = is_number k && is_number l

-- an untyped operand of this kind and a typed one
abbrev pub suits : NumKind → Sort → Bool
suits K.Bool S.Bool = true
suits K.Text S.Text = true
suits k (S.Int t) = is_number k
suits k (S.Float f) = is_number k
suits k s = false

abbrev pub match_by : RecData → RecData → Sort → Sort → Test
match_by x y (S.Untyped k) (S.Untyped l) = Done (same_kind k l)
match_by x y (S.Untyped k) t = Done (suits k t)
match_by x y s (S.Untyped l) = Done (suits l s)
match_by x y s t = identical (type_or_none x) (type_or_none y)

-- R4
abbrev pub are_matched : RecData → RecData → RuleTest HeaderData
are_matched x y = at_whole mismatched_operands (then_ask (sorts_of x y) (λ pair. match_by x y pair.0 pair.1))

-- THE TYPE OF BOTH

abbrev pub later : NumKind → NumKind → NumKind
later K.Rune l = K.Rune
later k l = l

-- the sort of the type that matched operands have
abbrev pub common_sort : Sort → Sort → Sort
common_sort (S.Untyped k) (S.Untyped l) = S.Untyped (later k l)
common_sort (S.Untyped k) t = t
common_sort s t = s

abbrev pub untyped_basic : NumKind → Basic
untyped_basic K.Bool = B.UntypedBool
untyped_basic K.Int = B.UntypedInt
untyped_basic K.Rune = B.UntypedRune
untyped_basic K.Text = B.UntypedString
untyped_basic K.Nil = B.UntypedNil

-- and that type
abbrev pub common_type : RecData → RecData → Sort → Sort → TypeData
common_type x y (S.Untyped k) (S.Untyped l) = basic_type (untyped_basic (later k l))
common_type x y (S.Untyped k) t = type_or_none y
common_type x y s t = type_or_none x

-- CONSTANTS THAT ARE GIVEN A TYPE

abbrev pub fit_by : Option Value → Sort → Fit
fit_by (Some v) s = fit_of v s
fit_by None s = Fits

-- an operand of the first sort beside one of the second: an untyped constant beside a typed operand
abbrev pub given_fit : RecData → Sort → Sort → Fit
given_fit x (S.Untyped k) (S.Untyped l) = Fits
given_fit x (S.Untyped k) t = fit_by x.value t
given_fit x s t = Fits

-- a rule on both, by how each fits
abbrev pub given : Rule → (Fit → Bool) → RecData → RecData → RuleTest HeaderData
given rule holds x y = record {
  rule = rule;
  spots =
      record { spot = Part 0; holds = by_sorts x y (λ s t. holds (given_fit x s t)) }
      ∷ (record { spot = Part 1; holds = by_sorts x y (λ s t. holds (given_fit y t s)) } ∷ []);
}

-- R8 and U9, "at the constant"
abbrev pub not_overflowing : RecData → RecData → RuleTest HeaderData
not_overflowing x y = given constant_overflow not_overflows x y

abbrev pub are_kept : RecData → RecData → RuleTest HeaderData
are_kept x y = given unkept_float not_unkept x y
