use Rattle.std.proofs.Common.{arith}
use Rattle.go_load.proofs.NamedLemmas.{named_more}
use Rattle.go_load.proofs.named.add_named.Goals as goal

pub loop-import-preserved : goal.loop-import-preserved
loop-import-preserved c =
    named_more c.args.places.now c.args.stubs.now c.args.from_stub c.args.imports.now c.loop-import.import-index c.import-item.result c.args.list.now c.loop-import.list c.add_import.new.list (omega arith) c.import-item.is c.loop-import.invariant c.in_ok-add_import.ensures
