use Rattle.std.proofs.Common.{arith}
use Rattle.go_load.proofs.HeadLemmas.{imports-more}
use Rattle.go_load.proofs.tree_heads.add_specs.Goals as goal

pub loop-spec-preserved : goal.loop-spec-preserved
loop-spec-preserved c =
    imports-more c.args.specs.now c.loop-spec.spec-index c.spec-item.result c.args.imports.now.items c.loop-spec.imports.items c.push.new.self.items c.in_ok-import_of.field-0 (omega arith) c.spec-item.is c.loop-spec.invariant c.in_ok-import_of.ensures c.in_ok-push.ensures.items
