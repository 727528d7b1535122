use Rattle.std.proofs.Common.{rules, ◌∙◌, ap, ◌++◌, List, map, arith}
use Rattle.go_same.specs.MethodOrder.{both_at}
use Rattle.go_same.specs.declared.set.Method.{Method}
use Rattle.go_same.proofs.MethodWalkLemmas.{none_yet, no_more}
use Rattle.go_same.proofs.methods.add_named.Goals as goal

pub loop-k-init : goal.loop-k-init
loop-k-init c = record {
  in_range = c.requires.range;
  so_far = λ other. none_yet (λ (n : Method). (_, n)) (map (both_at c.args.ms.now c.args.ns.now other) c.args.pairs.now.items) c.args.ns.now c.args.ms.now c.args.from c.args.i other c.requires.here c.requires.passed;
}

pub returns-then-not-is_named_as-clause-pairs : goal.returns-then-not-is_named_as-clause-pairs
returns-then-not-is_named_as-clause-pairs c other =
    c.loop-k.invariant.so_far other
    ∙ ap (λ (rest : List (Method × Method)). map (both_at c.args.ms.now c.args.ns.now other) c.args.pairs.now.items ++ rest)
    (no_more (λ (n : Method). (_, n)) c.args.ns.now c.args.ms.now c.args.from c.loop-k.k c.args.i c.index-ms-i.result c.index-ns-k.result other
    c.requires.second (omega arith) (omega arith) (omega arith) c.index-ms-i.is c.index-ns-k.is c.requires.rest (search rules))
