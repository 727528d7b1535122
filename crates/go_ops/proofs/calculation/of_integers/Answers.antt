use Rattle.std.proofs.Common.{sym, ◌∙◌}
use Rattle.std.specs.Int.{w128}
use Rattle.std.proofs.lemmas.Int.{to_z-of_z}
use Rattle.go_num.specs.Arithmetic.{binary_value, limited}
use Rattle.go_ops.proofs.calculation.of_integers.Goals as goal

pub returns : goal.returns
returns c =
    let first = to_z-of_z w128 c.args.a c.ranges.a in
    let second = to_z-of_z w128 c.args.b c.ranges.b in
    c.integer_given.ensures (binary_value c.args.op c.args.a c.args.b) (sym (c.value_of.ensures ∙ (λ i. limited (binary_value c.args.op (first i) (second i)))))
