-- Which counts of shifts are of the type `uint`.
use Rattle.std.proofs.Common.{◌≡◌, ◌&&◌, ◌-◌, ◌<◌, ◌≤◌, ◌^◌, ℕ, ℤ, pos, negsuc, Bool, true, false, Option, Some, None, if◌then◌else◌, refl, arith}
use Rattle.std.specs.Prelude.{int_le, nat_le}
use Rattle.std.proofs.lemmas.Bool.{le-leb, leb-true}
use Rattle.go_num.specs.Ranges.{fits, greatest, least}
use Rattle.go_num.specs.declared.ranges.IntType.{IntType}
use Rattle.go_num.specs.declared.ranges.IntType.TheVariants as I
use Rattle.go_num.specs.declared.value.Value.{Value}
use Rattle.go_num.specs.declared.value.Value.TheVariants as V
use Rattle.go_judge.specs.Records.{RecData}
use Rattle.go_constructs.specs.Operators.Constants.{constant_in}
use Rattle.go_ops.specs.Limited.{FitsSort}
use Rattle.go_constructs.specs.Operators.Matching.{is_number}
use Rattle.go_ops.specs.Shifted.{IsUint}
use Rattle.go_constructs.specs.Operators.Shifts.{is_count, is_not_negative, represents_count}
use Rattle.go_constructs.specs.declared.fit.Fit.TheVariants.{Fits, Overflows}
use Rattle.go_constructs.specs.declared.sort.Sort.{Sort}
use Rattle.go_constructs.specs.declared.sort.Sort.TheVariants as S

and_second : (a b : Bool) → (a && b) ≡ true → b ≡ true
and_second true b e = e
and_second false b e = absurd (let never : false ≡ true = e in cc)

if_fits : (b : Bool) → (if b then Fits else Overflows) ≡ Fits → b ≡ true
if_fits true e = refl
if_fits false e = absurd (let never : Overflows ≡ Fits = e in cc)

within_uint : (n k : ℕ) → nat_le n k ≡ true → k < 2 ^ 64 → fits (pos n) I.Uint ≡ true
within_uint n k e l = let h : n ≤ k = leb-true n k e in (λ i. le-leb 0 n (omega arith) i && le-leb n (2 ^ 64 - 1) (omega arith) i)

at_most_greatest : (t : IntType) (n : ℕ) → int_le (pos n) (greatest t) ≡ true → fits (pos n) I.Uint ≡ true
at_most_greatest I.Int n e = within_uint n (2 ^ 63 - 1) e (omega arith)
at_most_greatest I.Int8 n e = within_uint n (2 ^ 7 - 1) e (omega arith)
at_most_greatest I.Int16 n e = within_uint n (2 ^ 15 - 1) e (omega arith)
at_most_greatest I.Int32 n e = within_uint n (2 ^ 31 - 1) e (omega arith)
at_most_greatest I.Int64 n e = within_uint n (2 ^ 63 - 1) e (omega arith)
at_most_greatest I.Uint n e = within_uint n (2 ^ 64 - 1) e (omega arith)
at_most_greatest I.Uint8 n e = within_uint n (2 ^ 8 - 1) e (omega arith)
at_most_greatest I.Uint16 n e = within_uint n (2 ^ 16 - 1) e (omega arith)
at_most_greatest I.Uint32 n e = within_uint n (2 ^ 32 - 1) e (omega arith)
at_most_greatest I.Uint64 n e = within_uint n (2 ^ 64 - 1) e (omega arith)
at_most_greatest I.Uintptr n e = within_uint n (2 ^ 64 - 1) e (omega arith)

of_type : (o : Option Value) (t : IntType) → is_not_negative o ≡ true → FitsSort o (S.Int t) → IsUint o
of_type None t holds fit = tt
of_type (Some (V.Bool b)) t holds fit = tt
of_type (Some (V.Text text)) t holds fit = tt
of_type (Some (V.Int (negsuc n))) t holds fit = absurd (let never : false ≡ true = holds in cc)
of_type (Some (V.Int (pos n))) t holds fit = at_most_greatest t n (and_second (int_le (least t) (pos n)) (int_le (pos n) (greatest t)) (if_fits (fits (pos n) t) fit))

untyped : (o : Option Value) (span : Option (ℤ × ℤ)) → represents_count o span ≡ true → IsUint o
untyped None span holds = tt
untyped (Some (V.Bool b)) span holds = tt
untyped (Some (V.Text text)) span holds = tt
untyped (Some (V.Int v)) span holds = holds

pub count-uint : (y : RecData) (t : Sort) → is_count y t ≡ true → FitsSort (constant_in y) t → IsUint (constant_in y)
count-uint y (S.Int t) holds fit = of_type (constant_in y) t holds fit
count-uint y (S.Untyped k) holds fit = untyped (constant_in y) y.span (and_second (is_number k) (represents_count (constant_in y) y.span) holds)
count-uint y S.Bool holds fit = absurd (let never : false ≡ true = holds in cc)
count-uint y (S.Float f) holds fit = absurd (let never : false ≡ true = holds in cc)
count-uint y S.Text holds fit = absurd (let never : false ≡ true = holds in cc)
count-uint y S.Interface holds fit = absurd (let never : false ≡ true = holds in cc)
count-uint y S.Other holds fit = absurd (let never : false ≡ true = holds in cc)
