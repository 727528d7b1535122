-- Operators; Comparison operators; Constant expressions (Go specification).
-- Decides what the operands of a node are wanted as, by their records and by the record and the final type of the
-- whole.
use Rattle.std.specs.Prelude.{◌&&◌, Bool, true, false, if◌then◌else◌, Option, Some, None, List, [], ◌∷◌, map, option_and_then}
use Rattle.go_num.specs.declared.value.NumKind.{NumKind}
use Rattle.go_tree.specs.declared.node_kind.NodeKind.{NodeKind}
use Rattle.go_tree.specs.declared.node_kind.NodeKind.TheVariants.{ParenExpr}
use Rattle.go_term.specs.Types.{TypeData, basic_type}
use Rattle.go_term.specs.declared.basic.Basic.TheVariants.{Uint}
use Rattle.go_judge.specs.Operands.{is_constant}
use Rattle.go_judge.specs.Records.{RecData}
use Rattle.go_constructs.specs.Operators.Matching.{later}
use Rattle.go_constructs.specs.Operators.Nodes.{binary_of, unary_of}
use Rattle.go_constructs.specs.declared.operator.BinaryOp.{BinaryOp}
use Rattle.go_constructs.specs.declared.operator.BinaryOp.TheVariants.{Compares, Shifts}
use Rattle.go_constructs.specs.declared.operator.UnaryOp.{UnaryOp}
use Rattle.go_report.specs.Finals.Untyped.{default_type, is_untyped_constant, kind_in}

-- THE TYPE OF THE WHOLE

-- a constant hands nothing on: its untyped operands keep each its own kind (own), but one beside a typed operand, which
-- gives it its type (`beside`), as a typed c the 1 in `c == 1`
abbrev pub hands_on : RecData → Option TypeData → Option TypeData
hands_on whole final = if is_constant whole then None else final

-- TWO OPERANDS

-- in a comparison, an untyped operand x beside an untyped one, y, of that kind: constants stay untyped, others get the
-- default type of the kind that appears later
abbrev pub compared : RecData → RecData → NumKind → Option TypeData
compared x y other =
    if is_constant x && is_constant y then None else option_and_then (λ kind. default_type (later kind other)) (kind_in x)

-- in another operation, both are wanted as the whole hands on
abbrev pub alike : BinaryOp → Option TypeData → RecData → RecData → NumKind → Option TypeData
alike (Compares op) handed x y other = compared x y other
alike op handed x y other = handed

-- an operand x beside the other, y, by the kind of that: "if one operand is an untyped constant and the other operand is
-- not, the constant is implicitly converted to the type of the other operand"
abbrev pub beside_kind : BinaryOp → Option TypeData → RecData → RecData → Option NumKind → Option TypeData
beside_kind op handed x y (Some other) = alike op handed x y other
beside_kind op handed x y None = y.type

abbrev pub beside : BinaryOp → Option TypeData → RecData → RecData → Option TypeData
beside op handed x y = beside_kind op handed x y (kind_in y)

-- "If the left operand of a non-constant shift expression is an untyped constant, it is first implicitly converted to the
-- type it would assume if the shift expression were replaced by its left operand alone."
abbrev pub to_left : BinaryOp → Option TypeData → RecData → RecData → Option TypeData
to_left (Shifts left) handed x y = handed
to_left op handed x y = beside op handed x y

-- "The right operand in a shift expression must have integer type or be an untyped constant representable by a value of
-- type uint."
abbrev pub count_wanted : RecData → Option TypeData
count_wanted whole = if is_untyped_constant whole then None else Some (basic_type Uint)

abbrev pub to_right : BinaryOp → RecData → Option TypeData → RecData → RecData → Option TypeData
to_right (Shifts left) whole handed x y = count_wanted whole
to_right op whole handed x y = beside op handed y x

-- ALL OPERANDS OF A NODE

abbrev pub each_as : {X : Type 0} → Option TypeData → List X → List (Option TypeData)
each_as want operands = map (λ operand. want) operands

abbrev pub to_both : BinaryOp → RecData → Option TypeData → RecData → RecData → List (Option TypeData)
to_both op whole handed x y = to_left op handed x y ∷ (to_right op whole handed x y ∷ [])

abbrev pub to_two : BinaryOp → RecData → Option TypeData → List (Option RecData) → List (Option TypeData)
to_two op whole handed (Some x ∷ (Some y ∷ [])) = to_both op whole handed x y
to_two op whole handed operands = each_as None operands

-- by the operator; the operands of what is no operator, as the length of an array, are wanted as none
abbrev pub to_operands : Option BinaryOp → Option UnaryOp → RecData → Option TypeData → List (Option RecData) → List (Option TypeData)
to_operands (Some op) unary whole handed operands = to_two op whole handed operands
to_operands None (Some op) whole handed operands = each_as handed operands
to_operands None None whole handed operands = each_as None operands

abbrev pub is_parentheses : NodeKind → Bool
is_parentheses ParenExpr = true
is_parentheses kind = false

-- what stands in parentheses is wanted as they are
abbrev pub wanted : NodeKind → RecData → Option TypeData → List (Option RecData) → List (Option TypeData)
wanted kind whole final operands =
    if is_parentheses kind then each_as final operands
    else to_operands (binary_of kind) (unary_of kind) whole (hands_on whole final) operands
