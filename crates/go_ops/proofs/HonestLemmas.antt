-- What operators give is honest where their operands are.
use Rattle.std.proofs.Common.{◌≡◌, Bool, true, false, Option, Some, None, [], refl, sym, ap, subst}
use Rattle.std.specs.Prelude.{if◌then◌else◌, unwrap_or}
use Rattle.go_num.specs.declared.comparisons.CmpOp.{CmpOp}
use Rattle.go_num.specs.declared.value.NumKind.TheVariants as K
use Rattle.go_num.specs.declared.value.Value.{Value}
use Rattle.go_num.specs.declared.value.Value.TheVariants as V
use Rattle.go_term.specs.Types.{TypeData, basic_type}
use Rattle.go_term.specs.declared.basic.Basic.TheVariants.{UntypedBool}
use Rattle.go_judge.specs.declared.rec.Mode.{Mode}
use Rattle.go_judge.specs.declared.rec.Mode.TheVariants as M
use Rattle.go_judge.specs.Limits.{makes}
use Rattle.go_judge.specs.Judged.{asked}
use Rattle.go_judge.specs.Operands.{is_constant_mode, is_type, type_or_none}
use Rattle.go_judge.specs.Records.{RecData}
use Rattle.go_judge.specs.Headers.{Headers}
use Rattle.go_judge.specs.Types.Forms.{found_in}
use Rattle.go_judge.specs.Types.UnderlyingType.{under}
use Rattle.go_judge.specs.Quests.{Decided, Done, run}
use Rattle.go_judge.proofs.QuestLemmas.{run-then}
use Rattle.go_constructs.specs.Operators.Binary.{binary}
use Rattle.go_constructs.specs.Operators.Channels.{receive, received_from}
use Rattle.go_constructs.specs.Operators.Comparisons.{compared_values, comparison}
use Rattle.go_constructs.specs.Operators.Constants.{constant_in, record_of, value_record}
use Rattle.go_constructs.specs.Operators.Honest.{GivesHonest, IsHonest}
use Rattle.go_constructs.specs.Operators.Matching.{common_sort, common_type, later}
use Rattle.go_constructs.specs.Operators.Operations.{fit, fit_found, fit_of_both, given_values, of_values, operation, value_of}
use Rattle.go_constructs.specs.Operators.Pointers.{address, base_of, indirected, indirection, pointer_to, under_operand}
use Rattle.go_constructs.specs.Operators.Representable.{fit_of}
use Rattle.go_constructs.specs.Operators.Shifts.{shift, shift_fit, shifted_value, span_of}
use Rattle.go_constructs.specs.Operators.Sorts.{sort_in, sort_of, sorts_of}
use Rattle.go_constructs.specs.Operators.Unary.{of_value, sign, sign_fit, signed_value, unary}
use Rattle.go_constructs.specs.declared.fit.Fit.TheVariants.{Differs, Fits}
use Rattle.go_constructs.specs.declared.operator.BinaryOp.{BinaryOp}
use Rattle.go_constructs.specs.declared.operator.BinaryOp.TheVariants.{Compares, Operates, Shifts}
use Rattle.go_constructs.specs.declared.operator.Operation.{Operation}
use Rattle.go_constructs.specs.declared.operator.Sign.{Sign}
use Rattle.go_constructs.specs.declared.operator.UnaryOp.{UnaryOp}
use Rattle.go_constructs.specs.declared.operator.UnaryOp.TheVariants.{Address, Indirects, Receives, Signs}
use Rattle.go_constructs.specs.declared.sort.Sort.{Sort}
use Rattle.go_constructs.specs.declared.sort.Sort.TheVariants as S
use Rattle.go_ops.proofs.FoundLemmas.{all-hold, behind, gives-record}
use Rattle.go_ops.proofs.GivenLemmas.{basic_sort, constant, constant_sort, fits_type, given, given_one, limits_fit, plain, sorted}
use Rattle.go_ops.proofs.KindLemmas.{Alike, compared-truth, fits-alike, fits-later, shifted-alike, signed-alike, values-alike}
use Rattle.go_ops.proofs.SortLemmas.{constant-fits}

module _ (headers : Headers) where
  -- a record that is given is honest where the one is that it equals
  same_record : (r s : RecData) → Decided r ≡ Decided s → IsHonest headers r → IsHonest headers s
  same_record r s is honest = let same : r ≡ s = cc in subst (IsHonest headers) same honest

  -- OPERATIONS

  -- the value and the type of both constants, by the sorts of their types
  common : (x y : RecData) (s t : Sort) (a b v : Value) → Alike a v → Alike b v → fit_of a s ≡ Fits → fit_of b t ≡ Fits
      → run headers (sort_of (type_or_none x)) ≡ Decided s → run headers (sort_of (type_or_none y)) ≡ Decided t
      → (fit_of v (common_sort s t) ≡ Differs → ⊥) × (run headers (sort_of (common_type x y s t)) ≡ Decided (common_sort s t))
  common x y (S.Untyped k) (S.Untyped l) a b v alike also one two first second = (fits-later a b v k l alike also one two, basic_sort headers (later k l))
  common x y (S.Untyped k) t a b v alike also one two first second = (fits-alike b v t also two, second)
  common x y s t a b v alike also one two first second = (fits-alike a v s alike one, first)

  operation-honest : (op : Operation) (x y : RecData) → IsHonest headers x → IsHonest headers y → GivesHonest headers (asked headers (Some (operation op x y)))
  operation-honest op x y first second r is =
      let asks = operation op x y in
      let hold = all-hold headers asks.tests asks.gives r is in
      let found = behind headers (sorts_of x y) (λ pair. Done (record_of (common_type x y pair.0 pair.1) (value_of op x y (common_sort pair.0 pair.1)) None)) r (gives-record headers asks.tests asks.gives r is) in
      let s = found.answer.0 in
      let t = found.answer.1 in
      let sorts = sorted headers x y found.answer found.first in
      let fit_is = run-then headers (sorts_of x y) (λ pair. Done (fit_of_both op x y (common_sort pair.0 pair.1))) found.answer found.first in
      same_record _ r found.second
      (given headers (common_type x y s t) (common_sort s t) (of_values op (common_sort s t)) None (constant_in x) (constant_in y)
      (λ a b v x_is y_is is.
      let alike = values-alike op (common_sort s t) a b v is in
      common x y s t a b v alike.0 alike.1 (constant-fits headers x a s first sorts.first x_is) (constant-fits headers y b t second sorts.second y_is)
      (constant_sort headers x a s first sorts.first x_is) (constant_sort headers y b t second sorts.second y_is))
      (limits_fit headers (fit op x y) (fit_of_both op x y (common_sort s t)) fit_is
      hold.1.1.1.1.1.1.1.0 hold.1.1.1.1.1.1.1.1.1.0 hold.1.1.1.1.1.1.1.1.1.1.0 hold.1.1.1.1.1.1.1.1.1.1.1.0))

  -- COMPARISONS

  truth : (op : CmpOp) (cx cy : Option Value) (v : Value) → given_values None (compared_values op) cx cy ≡ Some v → (p : Bool) × (V.Bool p ≡ v)
  truth op (Some a) (Some b) v is = compared-truth op a b v is
  truth op (Some a) None v is = absurd (let never : None ≡ Some v = is in cc)
  truth op None cy v is = absurd (let never : None ≡ Some v = is in cc)

  truth_honest : (o : Option Value) → ((v : Value) → o ≡ Some v → (p : Bool) × (V.Bool p ≡ v)) → IsHonest headers (record_of (basic_type UntypedBool) o None)
  truth_honest None is = plain headers M.Value (basic_type UntypedBool) None refl
  truth_honest (Some v) is =
      let here = is v refl in
      constant headers (basic_type UntypedBool) v
      (fits_type headers (basic_type UntypedBool) (S.Untyped K.Bool) v (basic_sort headers K.Bool) (ap (λ w. fit_of w (S.Untyped K.Bool)) (sym here.1)))

  comparison-honest : (op : CmpOp) (x y : RecData) → GivesHonest headers (asked headers (Some (comparison op x y)))
  comparison-honest op x y r is =
      let asks = comparison op x y in
      same_record _ r (gives-record headers asks.tests asks.gives r is)
      (truth_honest (given_values None (compared_values op) (constant_in x) (constant_in y)) (truth op (constant_in x) (constant_in y)))

  -- SHIFTS AND SIGNS

  shift-honest : (left : Bool) (x y : RecData) → IsHonest headers x → GivesHonest headers (asked headers (Some (shift left x y)))
  shift-honest left x y first r is =
      let asks = shift left x y in
      let hold = all-hold headers asks.tests asks.gives r is in
      let found = behind headers (sorts_of x y) (λ pair. Done (record_of (type_or_none x) (given_values None (shifted_value left) (constant_in x) (constant_in y)) (span_of x pair.0))) r (gives-record headers asks.tests asks.gives r is) in
      let s = found.answer.0 in
      let sorts = sorted headers x y found.answer found.first in
      let fit_is = run-then headers (sorts_of x y) (λ pair. Done (given_values Fits (λ v w. fit_found (shifted_value left v w) pair.0) (constant_in x) (constant_in y))) found.answer found.first in
      same_record _ r found.second
      (given headers (type_or_none x) s (shifted_value left) (span_of x s) (constant_in x) (constant_in y)
      (λ a b v x_is y_is is. (fits-alike a v s (shifted-alike left a b v is) (constant-fits headers x a s first sorts.first x_is), constant_sort headers x a s first sorts.first x_is))
      (limits_fit headers (shift_fit left x y) (given_values Fits (λ v w. fit_found (shifted_value left v w) s) (constant_in x) (constant_in y)) fit_is
      hold.1.1.1.0 hold.1.1.1.1.0 hold.1.1.1.1.1.0 hold.1.1.1.1.1.1.0))

  sign-honest : (op : Sign) (x : RecData) → IsHonest headers x → GivesHonest headers (asked headers (Some (sign op x)))
  sign-honest op x first r is =
      let asks = sign op x in
      let hold = all-hold headers asks.tests asks.gives r is in
      let found = behind headers (sort_in x) (λ s. Done (record_of (type_or_none x) (of_value None (signed_value op s) (constant_in x)) x.span)) r (gives-record headers asks.tests asks.gives r is) in
      let s = found.answer in
      let fit_is = run-then headers (sort_in x) (λ s. Done (of_value Fits (λ v. fit_found (signed_value op s v) s) (constant_in x))) s found.first in
      same_record _ r found.second
      (given_one headers (type_or_none x) s (signed_value op s) x.span (constant_in x)
      (λ a v x_is is. (fits-alike a v s (signed-alike op s a v is) (constant-fits headers x a s first found.first x_is), constant_sort headers x a s first found.first x_is))
      (limits_fit headers (sign_fit op x) (of_value Fits (λ v. fit_found (signed_value op s v) s) (constant_in x)) fit_is
      hold.1.1.1.0 hold.1.1.1.1.0 hold.1.1.1.1.1.0 hold.1.1.1.1.1.1.0))

  -- POINTERS AND CHANNELS

  address-honest : (literal : Bool) (x : RecData) → GivesHonest headers (asked headers (Some (address literal x)))
  address-honest literal x r is =
      let asks = address literal x in
      same_record _ r (gives-record headers asks.tests asks.gives r is) (plain headers M.Value (pointer_to x) None refl)

  -- of what is read, by the type that it has
  read_honest : (mode : Mode) (x : RecData) (part : Option TypeData → Option TypeData) (r : RecData) → is_constant_mode mode ≡ false
      → run headers (under_operand x (λ u. value_record mode (unwrap_or (part u) (type_or_none x)) None)) ≡ Decided r → IsHonest headers r
  read_honest mode x part r other is =
      let found = behind headers (under (type_or_none x)) (λ reach. Done (value_record mode (unwrap_or (part (found_in reach)) (type_or_none x)) None)) r is in
      same_record _ r found.second (plain headers mode (unwrap_or (part (found_in found.answer)) (type_or_none x)) None other)

  indirection-honest : (x : RecData) → GivesHonest headers (asked headers (Some (indirection x)))
  indirection-honest x = go (is_type x)
    where
      go : (b : Bool) → GivesHonest headers (asked headers (Some (if b then makes [] (pointer_to x) else indirected x)))
      go true r is =
          let asks = makes [] (pointer_to x) in
          same_record _ r (gives-record headers asks.tests asks.gives r is) (plain headers M.IsType (pointer_to x) None refl)
      go false r is =
          let asks = indirected x in
          read_honest M.Var x base_of r refl (gives-record headers asks.tests asks.gives r is)

  receive-honest : (x : RecData) → GivesHonest headers (asked headers (Some (receive x)))
  receive-honest x r is =
      let asks = receive x in
      read_honest M.CommaOk x received_from r refl (gives-record headers asks.tests asks.gives r is)

  -- OPERATORS

  pub binary-honest : (o : BinaryOp) (x y : RecData) → IsHonest headers x → IsHonest headers y → GivesHonest headers (asked headers (Some (binary o x y)))
  binary-honest (Operates op) x y first second = operation-honest op x y first second
  binary-honest (Compares op) x y first second = comparison-honest op x y
  binary-honest (Shifts left) x y first second = shift-honest left x y first

  pub unary-honest : (o : UnaryOp) (literal : Bool) (x : RecData) → IsHonest headers x → GivesHonest headers (asked headers (Some (unary o literal x)))
  unary-honest (Signs op) literal x first = sign-honest op x first
  unary-honest Address literal x first = address-honest literal x
  unary-honest Indirects literal x first = indirection-honest x
  unary-honest Receives literal x first = receive-honest x
