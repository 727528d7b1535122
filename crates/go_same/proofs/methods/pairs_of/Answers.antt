use Rattle.std.proofs.Common.{◌<◌, List, ap, ◌∙◌, length, arith}
use Rattle.std.proofs.lemmas.List.{take_all}
use Rattle.go_same.specs.MethodOrder.{AreBefore, pairs_in}
use Rattle.go_same.specs.declared.set.Method.{Method}
use Rattle.go_same.proofs.MethodWalkLemmas.{one_method, pairs_at_view, passed_more, passed_next}
use Rattle.go_same.proofs.methods.pairs_of.Goals as goal

pub loop-i-preserved : goal.loop-i-preserved
loop-i-preserved c =
    let within : c.loop-i.i < length c.args.ms.now = omega arith in
    let here : AreBefore c.args.ns.now c.first_not_before-from.result c.args.ms.now c.loop-i.i =
    passed_more c.args.ns.now c.args.ms.now c.loop-i.from c.first_not_before-from.result c.loop-i.i c.index-ms-i.result within c.index-ms-i.is c.loop-i.invariant.passed c.first_not_before-from.ensures.passed in
    record {
      inside = c.first_not_before-from.ensures.high;
      passed = passed_next c.args.ns.now c.args.ms.now c.first_not_before-from.result c.loop-i.i c.requires.first here;
      in_range = c.add_named.ensures.in_range;
      so_far = λ other. c.in_ok-add_named.ensures.pairs other ∙ one_method c.args.ns.now c.args.ms.now c.loop-i.i other _ within (c.loop-i.invariant.so_far other);
    }

pub returns-clause-pairs : goal.returns-clause-pairs
returns-clause-pairs c tree other =
    pairs_at_view tree c.args.ms.now c.args.ns.now other c.loop-i.pairs.items
    (c.loop-i.invariant.so_far other ∙ ap (λ (ms : List Method). pairs_in ms c.args.ns.now) (take_all c.loop-i.i c.args.ms.now (omega arith)))
