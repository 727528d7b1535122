-- What operations on constants give, by the sort of the type that both have.
use Rattle.std.proofs.Common.{◌≡◌, ℤ, ℕ, ◌&&◌, ◌||◌, Bool, true, false, List, Option, Some, None, if◌then◌else◌, length, refl, sym, subst}
use Rattle.std.specs.Prelude.{nat_le, not}
use Rattle.go_base.specs.declared.ids.ObjId.{ObjId}
use Rattle.go_num.specs.Text.{most_text}
use Rattle.go_num.specs.declared.arithmetic.IntOp.{IntOp}
use Rattle.go_num.specs.declared.arithmetic.IntOp.TheVariants as I
use Rattle.go_num.specs.declared.value.NumKind.{NumKind}
use Rattle.go_num.specs.declared.value.NumKind.TheVariants as K
use Rattle.go_num.specs.declared.value.Value.{Value}
use Rattle.go_num.specs.declared.value.Value.TheVariants as V
use Rattle.go_term.specs.Types.{TypeData}
use Rattle.go_judge.specs.declared.rec.Mode.{Mode}
use Rattle.go_judge.specs.declared.rec.Mode.TheVariants as M
use Rattle.go_judge.specs.Operands.{is_constant_mode}
use Rattle.go_judge.specs.Records.{RecData}
use Rattle.go_constructs.specs.Operators.Constants.{constant_in}
use Rattle.go_ops.specs.Limited.{IsGiven, IsGivenNothing}
use Rattle.go_constructs.specs.Operators.Matching.{common_sort, later}
use Rattle.go_constructs.specs.Operators.Operations.{fit_found, has_no_quotient, is_boolean, is_by_zero, is_integer, is_numeric, is_text, of_values}
use Rattle.go_constructs.specs.Operators.Representable.{fit_of, fit_of_integer, fit_of_text, fit_of_truth}
use Rattle.go_ops.specs.Stages.{are_of, both_divide, both_of}
use Rattle.go_constructs.specs.declared.fit.Fit.TheVariants.{Differs, Fits, Long}
use Rattle.go_ops.specs.declared.limits.Given.{Given}
use Rattle.go_constructs.specs.declared.operator.Operation.{Operation}
use Rattle.go_constructs.specs.declared.operator.Operation.TheVariants.{Arithmetic}
use Rattle.go_constructs.specs.declared.sort.Sort.{Sort}
use Rattle.go_constructs.specs.declared.sort.Sort.TheVariants as S
use Rattle.go_ops.proofs.MatchingLemmas.{common-of}

-- FITS BY KINDS

-- a truth value fits a boolean type
pub truth-fits : (s : Sort) → is_boolean s ≡ true → Fits ≡ fit_of_truth s
truth-fits (S.Untyped K.Bool) is = refl
truth-fits S.Bool is = refl
truth-fits s is = absurd (let never : false ≡ true = is in cc)

-- a string of so many bytes fits a string type, or is too long
pub text-fits : (n : ℕ) (s : Sort) → is_text s ≡ true → fit_of_text n s ≡ (if nat_le n most_text then Fits else Long)
text-fits n (S.Untyped K.Text) is = refl
text-fits n S.Text is = refl
text-fits n s is = absurd (let never : false ≡ true = is in cc)

-- and what fits is of the kind of the type
truth_of : (s : Sort) → fit_of_truth s ≡ Fits → is_boolean s ≡ true
truth_of (S.Untyped K.Bool) is = refl
truth_of S.Bool is = refl
truth_of s is = absurd (let never : Differs ≡ Fits = is in cc)

text_of : (n : ℕ) (s : Sort) → fit_of_text n s ≡ Fits → is_text s ≡ true
text_of n (S.Untyped K.Text) is = refl
text_of n S.Text is = refl
text_of n s is = absurd (let never : Differs ≡ Fits = is in cc)

integer_of : (v : ℤ) (s : Sort) → fit_of_integer v s ≡ Fits → is_numeric s ≡ true
integer_of v (S.Untyped K.Int) is = refl
integer_of v (S.Untyped K.Rune) is = refl
integer_of v (S.Int t) is = refl
integer_of v (S.Float f) is = refl
integer_of v s is = absurd (let never : Differs ≡ Fits = is in cc)

-- KINDS OF TWO

later_numeric : (k l : NumKind) → is_numeric (S.Untyped k) ≡ true → is_numeric (S.Untyped l) ≡ true → is_numeric (S.Untyped (later k l)) ≡ true
later_numeric K.Rune l p q = refl
later_numeric k l p q = q

later_text : (k l : NumKind) → is_text (S.Untyped k) ≡ true → is_text (S.Untyped l) ≡ true → is_text (S.Untyped (later k l)) ≡ true
later_text K.Rune l p q = absurd (let never : false ≡ true = p in cc)
later_text k l p q = q

later_boolean : (k l : NumKind) → is_boolean (S.Untyped k) ≡ true → is_boolean (S.Untyped l) ≡ true → is_boolean (S.Untyped (later k l)) ≡ true
later_boolean K.Rune l p q = absurd (let never : false ≡ true = p in cc)
later_boolean k l p q = q

values_of : (a b : Value) (s t : Sort) → fit_of a s ≡ Fits → fit_of b t ≡ Fits → are_of a b (common_sort s t) ≡ true
values_of (V.Bool p) (V.Bool q) s t e f = common-of is_boolean later_boolean s t (truth_of s e) (truth_of t f)
values_of (V.Int a) (V.Int b) s t e f = common-of is_numeric later_numeric s t (integer_of a s e) (integer_of b t f)
values_of (V.Text a) (V.Text b) s t e f = common-of is_text later_text s t (text_of (length a) s e) (text_of (length b) t f)
values_of (V.Bool p) (V.Int b) s t e f = refl
values_of (V.Bool p) (V.Text b) s t e f = refl
values_of (V.Int a) (V.Bool q) s t e f = refl
values_of (V.Int a) (V.Text b) s t e f = refl
values_of (V.Text a) (V.Bool q) s t e f = refl
values_of (V.Text a) (V.Int b) s t e f = refl

-- constants that fit their types are of the kind of the type that both have
pub kinds-agree : (v w : Option Value) (s t : Sort) → ((a : Value) → v ≡ Some a → fit_of a s ≡ Fits) → ((b : Value) → w ≡ Some b → fit_of b t ≡ Fits)
    → both_of v w (common_sort s t) ≡ true
kinds-agree (Some a) (Some b) s t first second = values_of a b s t (first a refl) (second b refl)
kinds-agree (Some a) None s t first second = refl
kinds-agree None w s t first second = refl

-- DIVISORS

no_quotient : (q i : Bool) → (q && (i || true)) ≡ false → not q ≡ true
no_quotient true true is = absurd (let never : true ≡ false = is in cc)
no_quotient true false is = absurd (let never : true ≡ false = is in cc)
no_quotient false i is = refl

by_constant : (op : Operation) (v w : Option Value) (s : Sort) → (has_no_quotient op w && (is_integer s || true)) ≡ false → both_divide op v w ≡ true
by_constant op (Some a) (Some b) s is = no_quotient (has_no_quotient op (Some b)) (is_integer s) is
by_constant op (Some a) None s is = refl
by_constant op None w s is = refl

by_mode : (op : Operation) (mode : Mode) (type : Option TypeData) (value : Option Value) (object : Option ObjId) (span : Option (ℤ × ℤ)) (w : Option Value) (s : Sort)
    → (has_no_quotient op w && (is_integer s || is_constant_mode mode)) ≡ false
    → both_divide op (constant_in (record { mode = mode; type = type; value = value; object = object; span = span })) w ≡ true
by_mode op M.Const type value object span w s is = by_constant op value w s is
by_mode op mode type value object span w s is = refl

-- two constants of which R7 does not stand have a quotient where one is asked
pub quotient-there : (op : Operation) (x y : RecData) (s : Sort) → is_by_zero op x y s ≡ false → both_divide op (constant_in x) (constant_in y) ≡ true
quotient-there op x y s is = by_mode op x.mode x.type x.value x.object x.span (constant_in y) s is

-- WITHOUT A VALUE

-- a string and a constant of another kind have none together
pub text-integer : (op : IntOp) (s : Sort) (a : List ℕ) (b : ℤ) → of_values (Arithmetic op) s (V.Text a) (V.Int b) ≡ None
text-integer I.Add s a b = refl
text-integer op s a b = refl

pub text-truth : (op : IntOp) (s : Sort) (a : List ℕ) (b : Bool) → of_values (Arithmetic op) s (V.Text a) (V.Bool b) ≡ None
text-truth I.Add s a b = refl
text-truth op s a b = refl

-- constants that have no value together give none
pub nothing-given : (given : Given) (op : Operation) (s : Sort) (a b : Value) → IsGivenNothing given → of_values op s a b ≡ None → IsGiven given (fit_found (of_values op s a b) s) (of_values op s a b)
nothing-given given op s a b nothing is = subst (λ (v : Option Value). IsGiven given (fit_found v s) v) (sym is) (nothing None)
