-- Values of one kind, and the kinds of the values that operations give.
use Rattle.std.proofs.Common.{◌≡◌, ℤ, Bool, true, false, Some, None, ◌++◌, refl, sym, ◌∙◌, subst}
use Rattle.std.specs.Prelude.{◌&&◌, ◌||◌, if◌then◌else◌, int_div, int_rem, is_some, length, nat_le, not}
use Rattle.go_num.specs.Arithmetic.{is_zero, limited, unary_value}
use Rattle.go_num.specs.Comparisons.{ints_compared, texts_compared}
use Rattle.go_num.specs.Ranges.{fits}
use Rattle.go_num.specs.Text.{most_text}
use Rattle.go_num.specs.declared.arithmetic.IntOp.{IntOp}
use Rattle.go_num.specs.declared.arithmetic.IntOp.TheVariants as I
use Rattle.go_num.specs.declared.comparisons.CmpOp.{CmpOp}
use Rattle.go_num.specs.declared.value.NumKind.{NumKind}
use Rattle.go_num.specs.declared.value.NumKind.TheVariants as K
use Rattle.go_num.specs.declared.value.Value.{Value}
use Rattle.go_num.specs.declared.value.Value.TheVariants as V
use Rattle.go_constructs.specs.Operators.Comparisons.{compared_values, truths_compared}
use Rattle.go_constructs.specs.Operators.Matching.{later}
use Rattle.go_constructs.specs.Operators.Operations.{of_numbers, of_values}
use Rattle.go_constructs.specs.Operators.Representable.{fit_of, fit_of_integer, is_kept}
use Rattle.go_constructs.specs.Operators.Shifts.{shifted_by, shifted_value}
use Rattle.go_constructs.specs.Operators.Unary.{integer_type, signed_value}
use Rattle.go_constructs.specs.declared.fit.Fit.{Fit}
use Rattle.go_constructs.specs.declared.fit.Fit.TheVariants.{Differs, Fits, Long, Overflows, Unkept, Wide}
use Rattle.go_constructs.specs.declared.operator.Operation.{Operation}
use Rattle.go_constructs.specs.declared.operator.Operation.TheVariants.{And, Arithmetic, Or}
use Rattle.go_constructs.specs.declared.operator.Sign.{Sign}
use Rattle.go_constructs.specs.declared.operator.Sign.TheVariants.{Not, Number}
use Rattle.go_constructs.specs.declared.sort.Sort.{Sort}
use Rattle.go_constructs.specs.declared.sort.Sort.TheVariants as S

abbrev pub Alike : Value → Value → Type 0
Alike (V.Bool p) (V.Bool q) = Unit {0}
Alike (V.Int a) (V.Int b) = Unit {0}
Alike (V.Text a) (V.Text b) = Unit {0}
Alike v w = ⊥

-- FITS

chosen : (b : Bool) (f : Fit) → (f ≡ Differs → ⊥) → (if b then Fits else f) ≡ Differs → ⊥
chosen true f other is = let never : Fits ≡ Differs = is in cc
chosen false f other is = other is

wide_stays : Wide ≡ Differs → ⊥
wide_stays is = cc

overflows_stays : Overflows ≡ Differs → ⊥
overflows_stays is = cc

unkept_stays : Unkept ≡ Differs → ⊥
unkept_stays is = cc

long_stays : Long ≡ Differs → ⊥
long_stays is = cc

integers_fit : (a b : ℤ) (s : Sort) → fit_of_integer a s ≡ Fits → fit_of_integer b s ≡ Differs → ⊥
integers_fit a b (S.Untyped K.Int) is other = chosen (is_some (limited b)) Wide wide_stays other
integers_fit a b (S.Untyped K.Rune) is other = chosen (is_some (limited b)) Wide wide_stays other
integers_fit a b (S.Int t) is other = chosen (fits b t) Overflows overflows_stays other
integers_fit a b (S.Float f) is other = chosen (is_kept b f) Unkept unkept_stays other
integers_fit a b s is other = let never : Differs ≡ Fits = is in cc

-- where one value fits, none of its kind is of another kind than the type
pub fits-alike : (v w : Value) (s : Sort) → Alike v w → fit_of v s ≡ Fits → fit_of w s ≡ Differs → ⊥
fits-alike (V.Bool p) (V.Bool q) s alike is other = let never : Fits ≡ Differs = sym is ∙ other in cc
fits-alike (V.Int a) (V.Int b) s alike is other = integers_fit a b s is other
fits-alike (V.Text a) (V.Text b) (S.Untyped K.Text) alike is other = chosen (nat_le (length b) most_text) Long long_stays other
fits-alike (V.Text a) (V.Text b) S.Text alike is other = chosen (nat_le (length b) most_text) Long long_stays other
fits-alike (V.Text a) (V.Text b) s alike is other = let never : Differs ≡ Fits = is in cc
fits-alike v w s alike is other = alike

-- nor of another kind than the later one of two kinds, one for each
pub fits-later : (v w u : Value) (k l : NumKind) → Alike v u → Alike w u → fit_of v (S.Untyped k) ≡ Fits → fit_of w (S.Untyped l) ≡ Fits
    → fit_of u (S.Untyped (later k l)) ≡ Differs → ⊥
fits-later v w u K.Rune l alike other is also differs = fits-alike v u (S.Untyped K.Rune) alike is differs
fits-later v w u k l alike other is also differs = fits-alike w u (S.Untyped l) other also differs

-- what breaks no rule of constants, and is of the kind, fits
pub all-fits : (f : Fit) → (f ≡ Overflows → ⊥) → (f ≡ Unkept → ⊥) → (f ≡ Wide → ⊥) → (f ≡ Long → ⊥) → (f ≡ Differs → ⊥) → f ≡ Fits
all-fits Fits overflows unkept wide long differs = refl
all-fits Overflows overflows unkept wide long differs = absurd (overflows refl)
all-fits Unkept overflows unkept wide long differs = absurd (unkept refl)
all-fits Wide overflows unkept wide long differs = absurd (wide refl)
all-fits Long overflows unkept wide long differs = absurd (long refl)
all-fits Differs overflows unkept wide long differs = absurd (differs refl)

-- WHAT OPERATIONS GIVE

abbrev Both : Value → Value → Value → Type 0
Both a b v = Alike a v × Alike b v

-- an integer, where it is one
some_integer : (a b x : ℤ) (v : Value) → Some (V.Int x) ≡ Some v → Both (V.Int a) (V.Int b) v
some_integer a b x v is = let same : V.Int x ≡ v = cc in subst (Both (V.Int a) (V.Int b)) same (tt, tt)

quotient_is : (c : Bool) (a b x : ℤ) (v : Value) → (if c then Some (V.Int x) else None) ≡ Some v → Both (V.Int a) (V.Int b) v
quotient_is true a b x v is = some_integer a b x v is
quotient_is false a b x v is = absurd (let never : None ≡ Some v = is in cc)

numbers-alike : (op : IntOp) (s : Sort) (a b : ℤ) (v : Value) → of_numbers op s a b ≡ Some v → Both (V.Int a) (V.Int b) v
numbers-alike I.Quo (S.Float f) a b v is = quotient_is (is_zero (int_rem a b)) a b (int_div a b) v is
numbers-alike op s a b v is = some_integer a b _ v is

pub values-alike : (op : Operation) (s : Sort) (a b v : Value) → of_values op s a b ≡ Some v → Alike a v × Alike b v
values-alike (Arithmetic op) s (V.Int a) (V.Int b) v is = numbers-alike op s a b v is
values-alike (Arithmetic I.Add) s (V.Text a) (V.Text b) v is = let same : V.Text (a ++ b) ≡ v = cc in subst (Both (V.Text a) (V.Text b)) same (tt, tt)
values-alike And s (V.Bool p) (V.Bool q) v is = let same : V.Bool (p && q) ≡ v = cc in subst (Both (V.Bool p) (V.Bool q)) same (tt, tt)
values-alike Or s (V.Bool p) (V.Bool q) v is = let same : V.Bool (p || q) ≡ v = cc in subst (Both (V.Bool p) (V.Bool q)) same (tt, tt)
values-alike op s a b v is = absurd (let never : None ≡ Some v = is in cc)

pub shifted-alike : (left : Bool) (a n v : Value) → shifted_value left a n ≡ Some v → Alike a v
shifted-alike left (V.Int a) (V.Int n) v is = let same : V.Int (shifted_by left a n) ≡ v = cc in subst (Alike (V.Int a)) same tt
shifted-alike left a n v is = absurd (let never : None ≡ Some v = is in cc)

pub signed-alike : (op : Sign) (s : Sort) (a v : Value) → signed_value op s a ≡ Some v → Alike a v
signed-alike (Number op) s (V.Int a) v is = let same : V.Int (unary_value op (integer_type s) a) ≡ v = cc in subst (Alike (V.Int a)) same tt
signed-alike Not s (V.Bool p) v is = let same : V.Bool (not p) ≡ v = cc in subst (Alike (V.Bool p)) same tt
signed-alike op s a v is = absurd (let never : None ≡ Some v = is in cc)

pub compared-truth : (op : CmpOp) (a b v : Value) → compared_values op a b ≡ Some v → (p : Bool) × (V.Bool p ≡ v)
compared-truth op (V.Bool p) (V.Bool q) v is = (truths_compared op p q, cc)
compared-truth op (V.Int a) (V.Int b) v is = (ints_compared op a b, cc)
compared-truth op (V.Text a) (V.Text b) v is = (texts_compared op a b, cc)
compared-truth op a b v is = absurd (let never : None ≡ Some v = is in cc)
