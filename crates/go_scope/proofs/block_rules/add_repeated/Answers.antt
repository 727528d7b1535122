use Rattle.std.proofs.Common.{arith}
use Rattle.go_module.specs.Names.Rules.BlockRules.{repeated_at}
use Rattle.go_scope.proofs.ListLemmas.{flat_step}
use Rattle.go_scope.proofs.block_rules.add_repeated.Goals as goal

pub loop-region-preserved : goal.loop-region-preserved
loop-region-preserved c =
    flat_step (repeated_at c.args.block.now) c.regions-region-items.result.now c.loop-region.region-index c.region-item.result c.args.found.now.items c.loop-region.found.items c.add_repeated_at.new.found.items (omega arith) c.region-item.is c.loop-region.invariant c.in_ok-add_repeated_at.ensures
