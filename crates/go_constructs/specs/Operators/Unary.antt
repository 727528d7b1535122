-- Operators; Arithmetic operators; Logical operators; Constant expressions (Go specification): "unary_op = "+" | "-" |
-- "!" | "^" | "*" | "&" | "<-" ." Decides which operator a token is, and what is asked of `+x`, `-x`, `^x` and `!x`:
-- "+x is 0 + x", "-x negation is 0 - x", "^x bitwise complement", "! NOT: !p is "not p"".
use Rattle.std.specs.Prelude.{not, Bool, Option, Some, None, [], ◌∷◌}
use Rattle.go_num.specs.Arithmetic.{unary_value}
use Rattle.go_num.specs.declared.ranges.IntType.{IntType}
use Rattle.go_num.specs.declared.unary.UnOp.TheVariants as U
use Rattle.go_num.specs.declared.value.Value.{Value}
use Rattle.go_num.specs.declared.value.Value.TheVariants as V
use Rattle.go_tree.specs.declared.token.TokenKind.{TokenKind}
use Rattle.go_tree.specs.declared.token.TokenKind.TheVariants as T
use Rattle.go_judge.specs.Judged.{Asks}
use Rattle.go_judge.specs.Operands.{are_values, at_whole, type_or_none}
use Rattle.go_judge.specs.Records.{HeaderData, RecData}
use Rattle.go_judge.specs.Quests.{Quest}
use Rattle.go_constructs.specs.Operators.Channels.{receive}
use Rattle.go_constructs.specs.Operators.Constants.{constant_in, limit_tests, record_of}
use Rattle.go_constructs.specs.Operators.Matching.{are_single}
use Rattle.go_constructs.specs.Operators.Operations.{fit_found, is_boolean, is_integer, is_numeric}
use Rattle.go_constructs.specs.Operators.Pointers.{address, indirection}
use Rattle.go_constructs.specs.Operators.Rules.{undefined_unary}
use Rattle.go_constructs.specs.Operators.Sorts.{by_sort}
use Rattle.go_constructs.specs.declared.fit.Fit.{Fit}
use Rattle.go_constructs.specs.declared.fit.Fit.TheVariants.{Fits}
use Rattle.go_constructs.specs.declared.operator.Sign.{Sign}
use Rattle.go_constructs.specs.declared.operator.Sign.TheVariants.{Not, Number}
use Rattle.go_constructs.specs.declared.operator.UnaryOp.{UnaryOp}
use Rattle.go_constructs.specs.declared.operator.UnaryOp.TheVariants.{Address, Indirects, Receives, Signs}
use Rattle.go_constructs.specs.declared.sort.Sort.{Sort}
use Rattle.go_constructs.specs.declared.sort.Sort.TheVariants as S

abbrev pub is_signed_by : Sign → Sort → Bool
is_signed_by (Number U.Plus) s = is_numeric s
is_signed_by (Number U.Minus) s = is_numeric s
is_signed_by (Number U.Not) s = is_integer s
is_signed_by Not s = is_boolean s

abbrev pub integer_type : Sort → Option IntType
integer_type (S.Int t) = Some t
integer_type s = None

abbrev pub signed_value : Sign → Sort → Value → Option Value
signed_value (Number op) s (V.Int v) = Some (V.Int (unary_value op (integer_type s) v))
signed_value Not s (V.Bool p) = Some (V.Bool (not p))
signed_value op s v = None

abbrev pub of_value : {A : Type 0} → A → (Value → A) → Option Value → A
of_value other one (Some v) = one v
of_value other one None = other

abbrev pub sign_fit : Sign → RecData → Quest HeaderData Fit
sign_fit op x = by_sort x (λ s. of_value Fits (λ v. fit_found (signed_value op s v) s) (constant_in x))

abbrev pub sign : Sign → RecData → Asks HeaderData RecData
sign op x = record {
  tests =
      are_values 0 (x ∷ [])
      ∷ (are_single (x ∷ [])
      ∷ (at_whole undefined_unary (by_sort x (is_signed_by op))
      ∷ limit_tests (sign_fit op x)));
  gives = by_sort x (λ s. record_of (type_or_none x) (of_value None (signed_value op s) (constant_in x)) x.span);
}

-- WHICH OPERATOR

abbrev pub unary_op : TokenKind → Option UnaryOp
unary_op T.Add = Some (Signs (Number U.Plus))
unary_op T.Sub = Some (Signs (Number U.Minus))
unary_op T.Xor = Some (Signs (Number U.Not))
unary_op T.Not = Some (Signs Not)
unary_op T.And = Some Address
unary_op T.Mul = Some Indirects
unary_op T.Arrow = Some Receives
unary_op token = None

-- where it is said whether the operand is a composite literal, parentheses aside
abbrev pub unary : UnaryOp → Bool → RecData → Asks HeaderData RecData
unary (Signs op) literal x = sign op x
unary Address literal x = address literal x
unary Indirects literal x = indirection x
unary Receives literal x = receive x
