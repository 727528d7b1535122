-- Operators (Go specification): "Expression = UnaryExpr | Expression binary_op Expression . UnaryExpr = PrimaryExpr |
-- unary_op UnaryExpr ."
-- Decides which operators are built, and which parts they have. It is no rule of Go.
use Rattle.std.specs.Prelude.{Bool, true, false, if◌then◌else◌}
use Rattle.go_tree.specs.declared.node_kind.NodeKind.{NodeKind}
use Rattle.go_tree.specs.declared.node_kind.NodeKind.TheVariants as k
use Rattle.go_tree.specs.Tree.{Trees}
use Rattle.go_form.specs.declared.parts.Parts.{Parts}
use Rattle.go_form.specs.declared.parts.Parts.TheVariants.{One, Two}
use Rattle.go_form.specs.declared.role.Role.TheVariants.{Expression}
use Rattle.go_form.specs.BuiltTypes.{literal_parts}

abbrev pub is_binary : NodeKind → Bool
-- binary_op = "||" | "&&" | rel_op | add_op | mul_op .
is_binary k.LogicalOrExpr = true
is_binary k.LogicalAndExpr = true
-- rel_op = "==" | "!=" | "<" | "<=" | ">" | ">=" .
is_binary k.EqualExpr = true
is_binary k.NotEqualExpr = true
is_binary k.LessExpr = true
is_binary k.LessEqualExpr = true
is_binary k.GreaterExpr = true
is_binary k.GreaterEqualExpr = true
-- add_op = "+" | "-" | "|" | "^" .
is_binary k.AddExpr = true
is_binary k.SubExpr = true
is_binary k.OrExpr = true
is_binary k.XorExpr = true
-- mul_op = "*" | "/" | "%" | "<<" | ">>" | "&" | "&^" .
is_binary k.MulExpr = true
is_binary k.QuoExpr = true
is_binary k.RemExpr = true
is_binary k.ShlExpr = true
is_binary k.ShrExpr = true
is_binary k.AndExpr = true
is_binary k.AndNotExpr = true
is_binary kind = false

-- unary_op = "+" | "-" | "!" | "^" | "*" | "&" | "<-" . The last three are not built.
abbrev pub is_unary : NodeKind → Bool
is_unary k.PlusExpr = true
is_unary k.MinusExpr = true
is_unary k.NotExpr = true
is_unary k.ComplementExpr = true
is_unary kind = false

-- those of an operator, or of a type literal, which is built where an expression is written: another rule speaks of it
abbrev pub operator_parts : NodeKind → Trees → Parts
operator_parts kind parts =
    if is_binary kind then Two Expression Expression else if is_unary kind then One Expression else literal_parts kind parts
