-- Comparison operators (Go specification).
-- Decides which comparisons hold of two operands, by how these are ordered.
use Rattle.std.specs.Prelude.{ℕ, ℤ, Bool, List}
use Rattle.std.specs.Cmp.Lexicographic.{slice_cmp}
use Rattle.std.specs.declared.cmp.Ordering.{Ordering}
use Rattle.std.specs.Ordering.{int_cmp, is_eq, is_ge, is_gt, is_le, is_lt, is_ne, nat_cmp}
use Rattle.go_num.specs.declared.comparisons.CmpOp.{CmpOp}
use Rattle.go_num.specs.declared.comparisons.CmpOp.TheVariants.{Eq, Ne, Lt, Le, Gt, Ge}

-- "== equal", "!= not equal", "< less", "<= less or equal", "> greater", ">= greater or equal"
abbrev pub compared : CmpOp → Ordering → Bool
compared Eq order = is_eq order
compared Ne order = is_ne order
compared Lt order = is_lt order
compared Le order = is_le order
compared Gt order = is_gt order
compared Ge order = is_ge order

-- "Integer types are comparable and ordered. Two integer values are compared in the usual way."
abbrev pub ints_compared : CmpOp → ℤ → ℤ → Bool
ints_compared op a b = compared op (int_cmp a b)

-- "String types are comparable and ordered. Two string values are compared lexically byte-wise."
abbrev pub texts_compared : CmpOp → List ℕ → List ℕ → Bool
texts_compared op a b = compared op (slice_cmp nat_cmp a b)
