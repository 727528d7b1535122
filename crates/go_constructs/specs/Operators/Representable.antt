-- Representability; Constants; Numeric types (Go specification).
-- Decides whether a type represents a constant: "A constant x is representable by a value of type T .. if x is in the
-- set of values determined by T". Own: a constant of a float type is a whole number that the type has without rounding
-- together with all smaller ones; an untyped integer is within 128 bits, and a string has at most 1,048,576 bytes.
use Rattle.std.specs.Prelude.{ℕ, ℤ, ◌^◌, Bool, true, false, if◌then◌else◌, is_some, length, nat_le, unsigned_abs}
use Rattle.go_num.specs.Arithmetic.{limited}
use Rattle.go_num.specs.Ranges.{fits}
use Rattle.go_num.specs.Text.{most_text}
use Rattle.go_num.specs.declared.value.NumKind.TheVariants as K
use Rattle.go_num.specs.declared.value.Value.{Value}
use Rattle.go_num.specs.declared.value.Value.TheVariants as V
use Rattle.go_term.specs.Types.{TypeData}
use Rattle.go_judge.specs.Records.{HeaderData}
use Rattle.go_judge.specs.Quests.{Done, Quest, then_ask}
use Rattle.go_constructs.specs.Operators.Sorts.{sort_of}
use Rattle.go_constructs.specs.declared.fit.Fit.{Fit}
use Rattle.go_constructs.specs.declared.fit.Fit.TheVariants.{Differs, Fits, Long, Overflows, Unkept, Wide}
use Rattle.go_constructs.specs.declared.sort.FloatType.{FloatType}
use Rattle.go_constructs.specs.declared.sort.FloatType.TheVariants.{Float32, Float64}
use Rattle.go_constructs.specs.declared.sort.Sort.{Sort}
use Rattle.go_constructs.specs.declared.sort.Sort.TheVariants as S

-- "the set of all IEEE-754 32-bit (64-bit) floating-point numbers": up to here each whole number is one of them
abbrev pub most_kept : FloatType → ℕ
most_kept Float32 = 2 ^ 24
most_kept Float64 = 2 ^ 53

abbrev pub is_kept : ℤ → FloatType → Bool
is_kept v f = nat_le (unsigned_abs v) (most_kept f)

-- an integer of a type of this sort
abbrev pub fit_of_integer : ℤ → Sort → Fit
fit_of_integer v (S.Untyped K.Int) = if is_some (limited v) then Fits else Wide
fit_of_integer v (S.Untyped K.Rune) = if is_some (limited v) then Fits else Wide
fit_of_integer v (S.Int t) = if fits v t then Fits else Overflows
fit_of_integer v (S.Float f) = if is_kept v f then Fits else Unkept
fit_of_integer v s = Differs

-- a truth value, and a string of so many bytes
abbrev pub fit_of_truth : Sort → Fit
fit_of_truth (S.Untyped K.Bool) = Fits
fit_of_truth S.Bool = Fits
fit_of_truth s = Differs

abbrev pub fit_of_text : ℕ → Sort → Fit
fit_of_text n (S.Untyped K.Text) = if nat_le n most_text then Fits else Long
fit_of_text n S.Text = if nat_le n most_text then Fits else Long
fit_of_text n s = Differs

abbrev pub fit_of : Value → Sort → Fit
fit_of (V.Bool b) s = fit_of_truth s
fit_of (V.Int v) s = fit_of_integer v s
fit_of (V.Text text) s = fit_of_text (length text) s

-- whether a type represents a constant, or why not
abbrev pub representable : Value → TypeData → Quest HeaderData Fit
representable v t = then_ask (sort_of t) (λ s. Done (fit_of v s))

abbrev pub does_fit : Fit → Bool
does_fit Fits = true
does_fit fit = false

-- the tests of R8, U9, L2 and L3
abbrev pub not_overflows : Fit → Bool
not_overflows Overflows = false
not_overflows fit = true

abbrev pub not_unkept : Fit → Bool
not_unkept Unkept = false
not_unkept fit = true

abbrev pub not_wide : Fit → Bool
not_wide Wide = false
not_wide fit = true

abbrev pub not_long : Fit → Bool
not_long Long = false
not_long fit = true
