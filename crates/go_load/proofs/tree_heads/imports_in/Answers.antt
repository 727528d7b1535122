use Rattle.std.proofs.Common.{arith}
use Rattle.go_load.proofs.HeadLemmas.{declaration-more}
use Rattle.go_load.proofs.tree_heads.imports_in.Goals as goal

pub loop-declaration-preserved : goal.loop-declaration-preserved
loop-declaration-preserved c =
    declaration-more c.part_list-declaration-items.result.now c.loop-declaration.declaration-index c.declaration-item.result c.loop-declaration.imports.items c.add_declaration.new.imports.items (omega arith) c.declaration-item.is c.loop-declaration.invariant c.in_ok-add_declaration.ensures
