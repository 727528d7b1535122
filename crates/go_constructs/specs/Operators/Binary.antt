-- Operators (Go specification): "binary_op = "||" | "&&" | rel_op | add_op | mul_op ."
-- Decides which operator a token is, and what is asked of `x op y`.
use Rattle.std.specs.Prelude.{true, false, Option, Some, None}
use Rattle.go_num.specs.declared.arithmetic.IntOp.TheVariants as I
use Rattle.go_num.specs.declared.comparisons.CmpOp.TheVariants as C
use Rattle.go_tree.specs.declared.token.TokenKind.{TokenKind}
use Rattle.go_tree.specs.declared.token.TokenKind.TheVariants as T
use Rattle.go_judge.specs.Judged.{Asks}
use Rattle.go_judge.specs.Records.{HeaderData, RecData}
use Rattle.go_constructs.specs.Operators.Comparisons.{comparison}
use Rattle.go_constructs.specs.Operators.Operations.{operation}
use Rattle.go_constructs.specs.Operators.Shifts.{shift}
use Rattle.go_constructs.specs.declared.operator.BinaryOp.{BinaryOp}
use Rattle.go_constructs.specs.declared.operator.BinaryOp.TheVariants.{Compares, Operates, Shifts}
use Rattle.go_constructs.specs.declared.operator.Operation.TheVariants.{And, Arithmetic, Or}

abbrev pub binary_op : TokenKind → Option BinaryOp
binary_op T.Add = Some (Operates (Arithmetic I.Add))
binary_op T.Sub = Some (Operates (Arithmetic I.Sub))
binary_op T.Mul = Some (Operates (Arithmetic I.Mul))
binary_op T.Quo = Some (Operates (Arithmetic I.Quo))
binary_op T.Rem = Some (Operates (Arithmetic I.Rem))
binary_op T.And = Some (Operates (Arithmetic I.And))
binary_op T.Or = Some (Operates (Arithmetic I.Or))
binary_op T.Xor = Some (Operates (Arithmetic I.Xor))
binary_op T.AndNot = Some (Operates (Arithmetic I.AndNot))
binary_op T.LogicalAnd = Some (Operates And)
binary_op T.LogicalOr = Some (Operates Or)
binary_op T.Shl = Some (Shifts true)
binary_op T.Shr = Some (Shifts false)
binary_op T.Equal = Some (Compares C.Eq)
binary_op T.NotEqual = Some (Compares C.Ne)
binary_op T.Less = Some (Compares C.Lt)
binary_op T.LessEqual = Some (Compares C.Le)
binary_op T.Greater = Some (Compares C.Gt)
binary_op T.GreaterEqual = Some (Compares C.Ge)
binary_op token = None

abbrev pub binary : BinaryOp → RecData → RecData → Asks HeaderData RecData
binary (Operates op) x y = operation op x y
binary (Compares op) x y = comparison op x y
binary (Shifts left) x y = shift left x y
