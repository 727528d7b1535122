-- What is asked of an operator, where it is known which one it is.
use Rattle.std.specs.Prelude.{None, Some}
use Rattle.go_judge.specs.Judged.{Construct}
use Rattle.go_judge.specs.Records.{HeaderData, RecData}
use Rattle.go_constructs.specs.Operators.Nodes.{by_operator}
use Rattle.go_constructs.specs.declared.operator.BinaryOp.{BinaryOp}
use Rattle.go_constructs.specs.declared.operator.UnaryOp.{UnaryOp}

abbrev pub binary_node : BinaryOp → Construct HeaderData RecData
binary_node op = by_operator (Some op) None

abbrev pub unary_node : UnaryOp → Construct HeaderData RecData
unary_node op = by_operator None (Some op)
