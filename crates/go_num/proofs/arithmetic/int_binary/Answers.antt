use Rattle.go_num.specs.declared.arithmetic.IntOp.TheVariants.{And, Or, Xor, AndNot}
use Rattle.go_num.proofs.WordLemmas.{word_bits}
use Rattle.go_num.proofs.arithmetic.int_binary.Goals as goal

pub returns-in-And-clause-bits : goal.returns-in-And-clause-bits
returns-in-And-clause-bits c =
    word_bits c.args.op And c.args.a c.args.b c.and.result c.in-And.is c.ranges.a c.ranges.b (record { sfits = c.and.type_inv }) c.and.ensures

pub returns-in-Or-clause-bits : goal.returns-in-Or-clause-bits
returns-in-Or-clause-bits c =
    word_bits c.args.op Or c.args.a c.args.b c.or.result c.in-Or.is c.ranges.a c.ranges.b (record { sfits = c.or.type_inv }) c.or.ensures

pub returns-in-Xor-clause-bits : goal.returns-in-Xor-clause-bits
returns-in-Xor-clause-bits c =
    word_bits c.args.op Xor c.args.a c.args.b c.xor.result c.in-Xor.is c.ranges.a c.ranges.b (record { sfits = c.xor.type_inv }) c.xor.ensures

pub returns-in-AndNot-clause-bits : goal.returns-in-AndNot-clause-bits
returns-in-AndNot-clause-bits c =
    word_bits c.args.op AndNot c.args.a c.args.b c.and_not.result c.in-AndNot.is c.ranges.a c.ranges.b (record { sfits = c.and_not.type_inv }) c.and_not.ensures
