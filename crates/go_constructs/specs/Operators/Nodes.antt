-- Operators (Go specification): "Expression = UnaryExpr | Expression binary_op Expression . UnaryExpr = PrimaryExpr |
-- unary_op UnaryExpr ." Decides which operator a node is, by its kind, and what is asked of it. `*x`, `<-x` and `&x` are
-- not built yet.
use Rattle.std.specs.Prelude.{true, false, Option, Some, None}
use Rattle.go_num.specs.declared.arithmetic.IntOp.TheVariants as I
use Rattle.go_num.specs.declared.comparisons.CmpOp.TheVariants as C
use Rattle.go_num.specs.declared.unary.UnOp.TheVariants as U
use Rattle.go_tree.specs.declared.node_kind.NodeKind.{NodeKind}
use Rattle.go_tree.specs.declared.node_kind.NodeKind.TheVariants as k
use Rattle.go_judge.specs.Judged.{Construct}
use Rattle.go_judge.specs.Operands.{no_construct, of_one, of_two}
use Rattle.go_judge.specs.Records.{HeaderData, RecData}
use Rattle.go_constructs.specs.Operators.Binary.{binary}
use Rattle.go_constructs.specs.Operators.Unary.{unary}
use Rattle.go_constructs.specs.declared.operator.BinaryOp.{BinaryOp}
use Rattle.go_constructs.specs.declared.operator.BinaryOp.TheVariants.{Compares, Operates, Shifts}
use Rattle.go_constructs.specs.declared.operator.Operation.TheVariants.{And, Arithmetic, Or}
use Rattle.go_constructs.specs.declared.operator.Sign.TheVariants.{Not, Number}
use Rattle.go_constructs.specs.declared.operator.UnaryOp.{UnaryOp}
use Rattle.go_constructs.specs.declared.operator.UnaryOp.TheVariants.{Signs}

abbrev pub binary_of : NodeKind → Option BinaryOp
binary_of k.AddExpr = Some (Operates (Arithmetic I.Add))
binary_of k.SubExpr = Some (Operates (Arithmetic I.Sub))
binary_of k.MulExpr = Some (Operates (Arithmetic I.Mul))
binary_of k.QuoExpr = Some (Operates (Arithmetic I.Quo))
binary_of k.RemExpr = Some (Operates (Arithmetic I.Rem))
binary_of k.AndExpr = Some (Operates (Arithmetic I.And))
binary_of k.OrExpr = Some (Operates (Arithmetic I.Or))
binary_of k.XorExpr = Some (Operates (Arithmetic I.Xor))
binary_of k.AndNotExpr = Some (Operates (Arithmetic I.AndNot))
binary_of k.LogicalAndExpr = Some (Operates And)
binary_of k.LogicalOrExpr = Some (Operates Or)
binary_of k.ShlExpr = Some (Shifts true)
binary_of k.ShrExpr = Some (Shifts false)
binary_of k.EqualExpr = Some (Compares C.Eq)
binary_of k.NotEqualExpr = Some (Compares C.Ne)
binary_of k.LessExpr = Some (Compares C.Lt)
binary_of k.LessEqualExpr = Some (Compares C.Le)
binary_of k.GreaterExpr = Some (Compares C.Gt)
binary_of k.GreaterEqualExpr = Some (Compares C.Ge)
binary_of kind = None

abbrev pub unary_of : NodeKind → Option UnaryOp
unary_of k.PlusExpr = Some (Signs (Number U.Plus))
unary_of k.MinusExpr = Some (Signs (Number U.Minus))
unary_of k.ComplementExpr = Some (Signs (Number U.Not))
unary_of k.NotExpr = Some (Signs Not)
unary_of kind = None

abbrev pub by_operator : Option BinaryOp → Option UnaryOp → Construct HeaderData RecData
by_operator (Some op) unary_op = of_two (binary op)
by_operator None (Some op) = of_one (unary op false)
by_operator None None = no_construct

abbrev pub operator : NodeKind → Construct HeaderData RecData
operator kind = by_operator (binary_of kind) (unary_of kind)
