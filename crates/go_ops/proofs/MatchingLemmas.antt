-- Operands that match, by the kinds of those that are untyped.
use Rattle.std.proofs.Common.{◌≡◌, Bool, true, Option, Some, None, refl, sym, ◌∙◌}
use Rattle.go_num.specs.declared.value.NumKind.{NumKind}
use Rattle.go_judge.specs.Operands.{type_or_none}
use Rattle.go_judge.specs.Records.{RecData}
use Rattle.go_term.specs.Types.{basic_type}
use Rattle.go_constructs.specs.Operators.Matching.{common_sort, common_type, later, untyped_basic}
use Rattle.go_ops.specs.MatchingParts.{kind_of}
use Rattle.go_constructs.specs.declared.sort.Sort.{Sort}
use Rattle.go_constructs.specs.declared.sort.Sort.TheVariants as S

-- a choice by the kinds of two sorts
abbrev pub by_kinds : {A : Type 0} → (NumKind → NumKind → A) → (NumKind → A) → (NumKind → A) → A → Option NumKind → Option NumKind → A
by_kinds both first second neither (Some k) (Some l) = both k l
by_kinds both first second neither (Some k) None = first k
by_kinds both first second neither None (Some l) = second l
by_kinds both first second neither None None = neither

type_kinds : (x y : RecData) (s t : Sort) → common_type x y s t ≡ by_kinds (λ k l. basic_type (untyped_basic (later k l))) (λ k. type_or_none y) (λ l. type_or_none x) (type_or_none x) (kind_of s) (kind_of t)
type_kinds x y (S.Untyped k) (S.Untyped l) = refl
type_kinds x y (S.Untyped k) t = refl
type_kinds x y s (S.Untyped l) = refl
type_kinds x y s t = refl

-- the type that both have, by their kinds
pub type-by : (x y : RecData) (s t : Sort) (o u : Option NumKind) → o ≡ kind_of s → u ≡ kind_of t
    → by_kinds (λ k l. basic_type (untyped_basic (later k l))) (λ k. type_or_none y) (λ l. type_or_none x) (type_or_none x) o u ≡ common_type x y s t
type-by x y s t o u first second =
    (λ i. by_kinds (λ k l. basic_type (untyped_basic (later k l))) (λ k. type_or_none y) (λ l. type_or_none x) (type_or_none x) (first i) (second i))
    ∙ sym (type_kinds x y s t)

-- what holds of the sorts of both, and of the later of two kinds where of both, holds of the sort of the type that both
-- have
pub common-of : (P : Sort → Bool) → ((k l : NumKind) → P (S.Untyped k) ≡ true → P (S.Untyped l) ≡ true → P (S.Untyped (later k l)) ≡ true)
    → (s t : Sort) → P s ≡ true → P t ≡ true → P (common_sort s t) ≡ true
common-of P both (S.Untyped k) (S.Untyped l) p q = both k l p q
common-of P both (S.Untyped k) t p q = q
common-of P both s (S.Untyped l) p q = p
common-of P both s t p q = p
