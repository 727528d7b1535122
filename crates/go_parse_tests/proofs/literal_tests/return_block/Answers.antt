use Rattle.std.proofs.Common.{rules, arith}
use Rattle.go_parse_tests.proofs.literal_tests.return_block.Goals as goal

pub returns-clause-block : goal.returns-clause-block
returns-clause-block c =
    record {
      opening = c.in-Some.opening;
      word = c.in-Some-2.word;
      closing = c.in-Some-3.closing;
      stand = search rules;
      opens = search rules;
      returns = search rules;
      closes = search rules;
      tree = search rules;
      number = omega (arith, c.in_ok-node_of.ensures.number, c.in_ok-statement.ensures.number);
    }
