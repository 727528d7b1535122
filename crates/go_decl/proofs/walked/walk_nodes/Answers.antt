use Rattle.std.proofs.Common.{◌≡◌, ◌-◌, ◌∷◌, List, drop, map, sym, ap, ◌∙◌, suc, arith}
use Rattle.std.specs.List.{flat_map}
use Rattle.std.proofs.Math.Seq.{drop-cons}
use Rattle.go_tree.specs.declared.node.Node.{Node}
use Rattle.go_tree.specs.Tree.{tree_of}
use Rattle.go_operands.specs.Operands.{expressions_in}
use Rattle.go_judge.proofs.OwnLemmas.{types_then}
use Rattle.go_expr.proofs.WalkerLemmas.{walked_more}
use Rattle.go_decl.proofs.walked.walk_nodes.Goals as goal

pub loop-place-preserved : goal.loop-place-preserved
loop-place-preserved g c =
    let inv = c.loop-place.invariant in
    let xs = c.args.nodes.now in
    let i = c.loop-place.place - 1 in
    let x = c.index-nodes-place.result in
    let next : suc i ≡ c.loop-place.place = omega arith in
    let at : x ∷ drop c.loop-place.place xs ≡ drop i xs =
    sym (drop-cons xs i x (omega arith) ∙ (λ j. sym c.index-nodes-place.is j ∷ drop (next j) xs)) in
    record {
      same = c.walk_one.ensures.same ∙ inv.same;
      names = c.walk_one.ensures.names ∙ inv.names;
      world = c.walk_one.ensures.world ∙ inv.world;
      types = types_then inv.types c.walk_one.ensures.types;
      reached = walked_more (g.W.Ask.names c.args.walks.now) (g.W.Ask.names c.loop-place.walks) (g.W.Ask.headers c.args.walks.now) (g.W.Ask.headers c.loop-place.walks)
          (expressions_in (tree_of x)) (flat_map expressions_in (map tree_of (drop c.loop-place.place xs))) (flat_map expressions_in (map tree_of (drop i xs)))
          (g.W.Ask.outcomes c.args.walks.now) (g.W.Ask.outcomes c.loop-place.walks) (g.W.Ask.outcomes c.walk_one.new.walks) inv.names inv.same
          (ap (λ (l : List Node). flat_map expressions_in (map tree_of l)) at) inv.reached c.in_ok-walk_one.ensures.reached;
    }
