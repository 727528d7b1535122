-- Of operators: their tests and their records ask for headers of good objects only, and what they give names what their operands name.
use Rattle.std.proofs.Common.{ℕ, ℤ, Bool, Option, Some, None, [], ◌∷◌, refl}
use Rattle.std.specs.Prelude.{not}
use Rattle.std.proofs.lemmas.Option.{none-some}
use Rattle.go_base.specs.declared.rule.Rule.{Rule}
use Rattle.go_num.specs.declared.comparisons.CmpOp.{CmpOp}
use Rattle.go_num.specs.declared.value.Value.{Value}
use Rattle.go_term.specs.Types.{TypeData, basic_type}
use Rattle.go_term.specs.declared.basic.Basic.TheVariants.{UntypedBool}
use Rattle.go_tree.specs.declared.node_kind.NodeKind.{NodeKind}
use Rattle.go_tree.specs.declared.node_kind.NodeKind.TheVariants as k
use Rattle.go_judge.specs.Operands.{type_or_none}
use Rattle.go_judge.specs.Quests.{Done, Quest, then_ask}
use Rattle.go_judge.specs.Records.{HeaderData, RecData}
use Rattle.go_constructs.specs.Operators.Binary.{binary}
use Rattle.go_constructs.specs.Operators.Comparisons.{compared_values, comparison, compares}
use Rattle.go_constructs.specs.Operators.Constants.{constant_in, limit_tests, long_test, record_of, unkept_test, wide_test}
use Rattle.go_constructs.specs.Operators.Matching.{common_sort, common_type, given, given_fit}
use Rattle.go_constructs.specs.Operators.Nodes.{binary_of, by_operator, operator, unary_of}
use Rattle.go_constructs.specs.Operators.Operations.{fit, fit_of_both, given_values, is_built, is_by_zero, is_defined_on, is_integer, operation, value_of}
use Rattle.go_constructs.specs.Operators.Representable.{not_long, not_overflows, not_unkept, not_wide}
use Rattle.go_constructs.specs.Operators.Rules.{constant_overflow, unkept_float}
use Rattle.go_constructs.specs.Operators.Shifts.{is_count, shift, shift_fit, shifted_value, span_of}
use Rattle.go_constructs.specs.Operators.Sorts.{by_sort, by_sorts, sort_in, sorts_of}
use Rattle.go_constructs.specs.Operators.Unary.{is_signed_by, of_value, sign, sign_fit, signed_value}
use Rattle.go_constructs.specs.declared.fit.Fit.{Fit}
use Rattle.go_constructs.specs.declared.operator.BinaryOp.{BinaryOp}
use Rattle.go_constructs.specs.declared.operator.BinaryOp.TheVariants.{Compares, Operates, Shifts}
use Rattle.go_constructs.specs.declared.operator.Operation.{Operation}
use Rattle.go_constructs.specs.declared.operator.Sign.{Sign}
use Rattle.go_constructs.specs.declared.operator.UnaryOp.{UnaryOp}
use Rattle.go_constructs.specs.declared.operator.UnaryOp.TheVariants.{Signs}
use Rattle.go_constructs.specs.declared.sort.Sort.{Sort}
use Rattle.go_constructs.specs.declared.sort.Sort.TheVariants as S
use Rattle.go_same_laws.specs.Named.{AsksOnly, NamesOnly}
use Rattle.go_same_laws.proofs.NamedLemmas.{AnyOf, asks_then}
use Rattle.go_same_laws.proofs.NamedSameLemmas.{and_tests}
use Rattle.go_same_laws.proofs.NamedSortLemmas.{asks_done, by_sort_asks, by_sorts_asks, match_asks, sort_in_asks, sorts_asks, type_names}
use Rattle.go_laws.proofs.PlainLemmas.{AreGoodTests, ArePlain, IsFine, IsGoodTest, IsPlain, not_constant, one_plain, two_plain}

module _ (good : ℕ → Type 0) where
  -- RECORDS

  record_fine : (type : TypeData) (value : Option Value) (span : Option (ℤ × ℤ)) → NamesOnly good type → IsFine good (record_of type value span)
  record_fine type (Some v) span names = (names, λ is. (refl, refl))
  record_fine type None span names = (names, not_constant)

  by_sort_gives : (x : RecData) (answer : Sort → RecData) → IsFine good x → ((s : Sort) → IsFine good (answer s)) → AsksOnly good (IsFine good) (by_sort x answer)
  by_sort_gives x answer fine each = asks_then good AnyOf (IsFine good) (sort_in x) (λ s. Done (answer s)) (sort_in_asks good x fine.0) (λ s is. each s)

  by_sorts_gives : (x y : RecData) (answer : Sort → Sort → RecData) → IsFine good x → IsFine good y → ((s t : Sort) → IsFine good (answer s t)) → AsksOnly good (IsFine good) (by_sorts x y answer)
  by_sorts_gives x y answer first second each =
      asks_then good AnyOf (IsFine good) (sorts_of x y) (λ pair. Done (answer pair.0 pair.1)) (sorts_asks good x y first.0 second.0) (λ pair is. each pair.0 pair.1)

  common_names : (x y : RecData) → IsFine good x → IsFine good y → (s t : Sort) → NamesOnly good (common_type x y s t)
  common_names x y first second (S.Untyped k) (S.Untyped l) = (tt, tt)
  common_names x y first second (S.Untyped k) t = type_names good y second.0
  common_names x y first second s t = type_names good x first.0

  -- TESTS

  one_sort : {A : Type 0} (x : RecData) (answer : Sort → A) → IsFine good x → AsksOnly good AnyOf (by_sort x answer)
  one_sort x answer fine = by_sort_asks good x answer fine.0

  two_sorts : {A : Type 0} (x y : RecData) (answer : Sort → Sort → A) → IsFine good x → IsFine good y → AsksOnly good AnyOf (by_sorts x y answer)
  two_sorts x y answer first second = by_sorts_asks good x y answer first.0 second.0

  fits_good : (q : Quest HeaderData Fit) (holds : Fit → Bool) → AsksOnly good AnyOf q → AsksOnly good AnyOf (then_ask q (λ f. Done (holds f)))
  fits_good q holds asks = asks_done good AnyOf q holds asks

  limits_good : (q : Quest HeaderData Fit) → AsksOnly good AnyOf q → AreGoodTests good (limit_tests q)
  limits_good q asks = ((fits_good q not_overflows asks, tt), ((fits_good q not_unkept asks, tt), ((fits_good q not_wide asks, tt), ((fits_good q not_long asks, tt), tt))))

  -- a rule on two operands, by how each fits
  given_good : (rule : Rule) (holds : Fit → Bool) (x y : RecData) → IsFine good x → IsFine good y → IsGoodTest good (given rule holds x y)
  given_good rule holds x y first second =
      (two_sorts x y (λ s t. holds (given_fit x s t)) first second, (two_sorts x y (λ s t. holds (given_fit y t s)) first second, tt))

  -- OPERATORS

  sign_plain : (op : Sign) (x : RecData) → IsFine good x → IsPlain good (sign op x)
  sign_plain op x fine =
      let defined = one_sort x (is_signed_by op) fine in
      let limits = limits_good (sign_fit op x) (by_sort_asks good x _ fine.0) in
      record {
        tests = ((tt, tt), ((tt, tt), ((defined, tt), limits)));
        gives =
            by_sort_gives x (λ s. record_of (type_or_none x) (of_value None (signed_value op s) (constant_in x)) x.span) fine
            (λ s. record_fine (type_or_none x) (of_value None (signed_value op s) (constant_in x)) x.span (type_names good x fine.0));
      }

  operation_plain : (op : Operation) (x y : RecData) → IsFine good x → IsFine good y → IsPlain good (operation op x y)
  operation_plain op x y first second =
      let built = and_tests good (by_sort x (is_built x)) (by_sort y (is_built y)) (one_sort x (is_built x) first) (one_sort y (is_built y) second) in
      let matched = match_asks good x y first.0 second.0 in
      let defined = two_sorts x y (λ s t. is_defined_on op (common_sort s t)) first second in
      let divides = two_sorts x y (λ s t. not (is_by_zero op x y (common_sort s t))) first second in
      let not_over = given_good constant_overflow not_overflows x y first second in
      let kept = given_good unkept_float not_unkept x y first second in
      let asks = two_sorts x y (λ s t. fit_of_both op x y (common_sort s t)) first second in
      let fits : (holds : Fit → Bool) → AsksOnly good AnyOf (then_ask (fit op x y) (λ f. Done (holds f))) = λ holds. fits_good (fit op x y) holds asks in
      let last : AreGoodTests good (unkept_test (fit op x y) ∷ wide_test (fit op x y) ∷ long_test (fit op x y) ∷ []) = ((fits not_unkept, tt), ((fits not_wide, tt), ((fits not_long, tt), tt))) in
      record {
        tests = ((built, tt), ((tt, (tt, tt)), ((tt, (tt, tt)), ((matched, tt), ((defined, tt), ((divides, tt), (not_over, ((fits not_overflows, tt), (kept, last)))))))));
        gives =
            by_sorts_gives x y (λ s t. record_of (common_type x y s t) (value_of op x y (common_sort s t)) None) first second
            (λ s t. record_fine (common_type x y s t) (value_of op x y (common_sort s t)) None (common_names x y first second s t));
      }

  comparison_plain : (op : CmpOp) (x y : RecData) → IsFine good x → IsFine good y → IsPlain good (comparison op x y)
  comparison_plain op x y first second =
      let matched = match_asks good x y first.0 second.0 in
      let defined = two_sorts x y (λ s t. compares op (common_sort s t)) first second in
      let not_over = given_good constant_overflow not_overflows x y first second in
      let kept = given_good unkept_float not_unkept x y first second in
      record {
        tests = ((tt, tt), ((tt, (tt, tt)), ((tt, (tt, tt)), ((matched, tt), ((defined, tt), (not_over, (kept, tt)))))));
        gives = record_fine (basic_type UntypedBool) (given_values None (compared_values op) (constant_in x) (constant_in y)) None (tt, tt);
      }

  shift_plain : (left : Bool) (x y : RecData) → IsFine good x → IsFine good y → IsPlain good (shift left x y)
  shift_plain left x y first second =
      let allowed = and_tests good (by_sort x is_integer) (by_sort y (is_count y)) (one_sort x is_integer first) (one_sort y (is_count y) second) in
      let limits = limits_good (shift_fit left x y) (by_sorts_asks good x y _ first.0 second.0) in
      record {
        tests = ((tt, (tt, tt)), ((tt, (tt, tt)), ((allowed, tt), limits)));
        gives =
            by_sorts_gives x y (λ s t. record_of (type_or_none x) (given_values None (shifted_value left) (constant_in x) (constant_in y)) (span_of x s)) first second
            (λ s t. record_fine (type_or_none x) (given_values None (shifted_value left) (constant_in x) (constant_in y)) (span_of x s) (type_names good x first.0));
      }

  binary_plain : (op : BinaryOp) (x y : RecData) → IsFine good x → IsFine good y → IsPlain good (binary op x y)
  binary_plain (Operates op) x y first second = operation_plain op x y first second
  binary_plain (Compares op) x y first second = comparison_plain op x y first second
  binary_plain (Shifts left) x y first second = shift_plain left x y first second

  -- WHICH OPERATOR

  -- the unary operators that nodes are
  abbrev AreSigns : Option UnaryOp → Type 0
  AreSigns (Some (Signs op)) = Unit {0}
  AreSigns None = Unit {0}
  AreSigns o = ⊥

  are_signs : (kind : NodeKind) → AreSigns (unary_of kind)
  are_signs k.PlusExpr = tt
  are_signs k.MinusExpr = tt
  are_signs k.ComplementExpr = tt
  are_signs k.NotExpr = tt
  are_signs kind = tt

  by_operator_plain : (b : Option BinaryOp) (o : Option UnaryOp) → AreSigns o → ArePlain good (by_operator b o)
  by_operator_plain (Some op) o is = two_plain good _ (binary_plain op)
  by_operator_plain None (Some (Signs op)) is = one_plain good _ (sign_plain op)
  by_operator_plain None (Some o) is = absurd is
  by_operator_plain None None is = λ records a fine e. absurd (none-some a e)

  pub operator_plain : (kind : NodeKind) → ArePlain good (operator kind)
  operator_plain kind = by_operator_plain (binary_of kind) (unary_of kind) (are_signs kind)
