use Rattle.std.proofs.Common.{refl, below_more, arith}
use Rattle.go_graph.proofs.PlaceLemmas.{edge_within}
use Rattle.go_graph.proofs.certificate.is_confirmed.Goals as goal

pub loop-vertex-preserved : goal.loop-vertex-preserved
loop-vertex-preserved c = record {
  joined = below_more _ _ c.loop-vertex.invariant.joined (c.is_joined.ensures.0 c.if-not-is_joined.false);
  downward = below_more _ _ c.loop-vertex.invariant.downward (c.descends.ensures.0 c.if-not-descends.false);
}

pub returns : goal.returns
returns c = (
  λ _. record {
    same_length = omega arith;
    joined = λ v lt. c.loop-vertex.invariant.joined v (omega arith);
    downward = λ a b e. c.loop-vertex.invariant.downward a (let lt = edge_within c.args.graph.now a b e in omega arith) b e;
  },
  λ _. refl,
)
