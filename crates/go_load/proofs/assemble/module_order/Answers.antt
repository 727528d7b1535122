use Rattle.std.proofs.Common.{sym, subst}
use Rattle.go_graph.specs.Graph.{IsGraph}
use Rattle.go_load.proofs.assemble.module_order.Goals as goal

pub order-requires : goal.order-requires
order-requires c = subst IsGraph (sym c.imports.ensures) c.requires
