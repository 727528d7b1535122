use Rattle.std.proofs.Common.{◌≡◌, ◌<◌, true, false, rules, sym, length, arith}
use Rattle.go_same.specs.MethodOrder.{AreBefore, is_named_as}
use Rattle.go_same.proofs.MethodWalkLemmas.{name_found, name_lacks, name_lacks_all, passed_more, passed_next}
use Rattle.go_same.proofs.methods.have_names_of.Goals as goal
use Rattle.go_same.proofs.methods.have_names_of.Goals.{then-from-ms-via-then-from-ms, then-from-ms-via-else-from-ms+then-not-is_named_as}

pub returns-then-from-ms : goal.returns-then-from-ms
returns-then-from-ms c =
    let within : c.loop-n.n-index < length c.args.ns.now = omega arith in
    let here : AreBefore c.args.ms.now c.first_not_before-from.result c.args.ns.now c.loop-n.n-index =
    passed_more c.args.ms.now c.args.ns.now c.loop-n.from c.first_not_before-from.result c.loop-n.n-index c.n-item.result within c.n-item.is c.loop-n.invariant.passed c.first_not_before-from.ensures.passed in
    elim c.then-from-ms.branch [
      | then-from-ms-via-then-from-ms w ↦
          sym (name_lacks_all c.args.ms.now c.args.ns.now c.first_not_before-from.result c.loop-n.n-index c.n-item.result within c.n-item.is here (omega (arith, w.if-from-ms.true)))
      | then-from-ms-via-else-from-ms+then-not-is_named_as w ↦
          let inside : c.first_not_before-from.result < length c.args.ms.now = omega (arith, c.first_not_before-from.ensures.high, w.if-from-ms.false) in
          let other : is_named_as c.n-item.result w.index-ms-from.result ≡ false = search rules in
          let behind = c.first_not_before-from.ensures.here inside w.index-ms-from.result in
          sym (name_lacks c.args.ms.now c.args.ns.now c.first_not_before-from.result c.loop-n.n-index w.index-ms-from.result c.n-item.result c.requires.first inside within w.index-ms-from.is c.n-item.is here (rw (← w.index-ms-from.is) at behind) other)
    ]

pub loop-n-preserved : goal.loop-n-preserved
loop-n-preserved c =
    let within : c.loop-n.n-index < length c.args.ns.now = omega arith in
    let inside : c.first_not_before-from.result < length c.args.ms.now = omega (arith, c.first_not_before-from.ensures.high, c.if-from-ms.false) in
    let here : AreBefore c.args.ms.now c.first_not_before-from.result c.args.ns.now c.loop-n.n-index =
    passed_more c.args.ms.now c.args.ns.now c.loop-n.from c.first_not_before-from.result c.loop-n.n-index c.n-item.result within c.n-item.is c.loop-n.invariant.passed c.first_not_before-from.ensures.passed in
    let named : is_named_as c.n-item.result c.index-ms-from.result ≡ true = search rules in
    record {
      inside = c.first_not_before-from.ensures.high;
      passed = passed_next c.args.ms.now c.args.ns.now c.first_not_before-from.result c.loop-n.n-index c.requires.second here;
      found = name_found c.args.ms.now c.args.ns.now c.first_not_before-from.result c.loop-n.n-index c.index-ms-from.result c.n-item.result inside within c.index-ms-from.is c.n-item.is named c.loop-n.invariant.found;
    }
