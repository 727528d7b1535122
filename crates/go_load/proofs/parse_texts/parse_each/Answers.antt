use Rattle.std.proofs.Common.{arith, refl}
use Rattle.go_load.proofs.ParsedLemmas.{parsed-none, parsed-step, parsed-all}
use Rattle.go_load.proofs.parse_texts.parse_each.Goals as goal

pub loop-number-init : goal.loop-number-init
loop-number-init c = parsed-none c.new.result.items 45 c.new-2.result.items c.new.ensures.items refl c.new-2.ensures.items

pub loop-number-preserved : goal.loop-number-preserved
loop-number-preserved c =
    parsed-step c.args.texts.now c.loop-number.number c.index-texts-number.result c.loop-number.parsed.files.items c.add_text.new.parsed.files.items c.loop-number.parsed.next c.add_text.new.parsed.next c.loop-number.parsed.broken.items c.add_text.new.parsed.broken.items (omega arith) c.index-texts-number.is c.loop-number.invariant c.in_ok-add_text.ensures

pub returns : goal.returns
returns c = parsed-all c.args.texts.now c.loop-number.number c.loop-number.parsed.files.items c.loop-number.parsed.next c.loop-number.parsed.broken.items c.loop-number-test.false c.loop-number.invariant
