use Rattle.std.proofs.Common.{get_or}
use Rattle.go_graph.proofs.OpenEdgeLemmas.{is_open, within}
use Rattle.go_graph.proofs.ordering.close.Goals as goal

pub close_one-requires-clause-counted : goal.close_one-requires-clause-counted
close_one-requires-clause-counted c =
    is_open c.args.list.now c.loop-vertex.vertex-index c.args.counts.now.items c.loop-vertex.counts.items c.args.ready.now c.loop-vertex.ready c.loop-vertex-test.true c.requires c.loop-vertex.invariant

pub close_one-requires-clause-within : goal.close_one-requires-clause-within
close_one-requires-clause-within c =
    within c.loop-vertex.counts.items (get_or c.args.list.now c.loop-vertex.vertex-index 0)
    (is_open c.args.list.now c.loop-vertex.vertex-index c.args.counts.now.items c.loop-vertex.counts.items c.args.ready.now c.loop-vertex.ready c.loop-vertex-test.true c.requires c.loop-vertex.invariant)
