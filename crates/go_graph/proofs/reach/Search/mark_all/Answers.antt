use Rattle.std.proofs.Common.{◌≡◌, true, Contains, inr, ⊎_elim, subst, below_more, arith}
use Rattle.std.proofs.lemmas.List.Elements.{All-contains, All-from_get_or, Contains-get_or}
use Rattle.go_graph.specs.Graph.{is_marked}
use Rattle.go_graph.proofs.MarkLemmas.{extends_more}
use Rattle.go_graph.proofs.reach.Search.mark_all.Goals as goal

pub loop-vertex-preserved : goal.loop-vertex-preserved
loop-vertex-preserved c =
    let inv = c.loop-vertex.invariant in
    let did = c.in_ok-mark.ensures in
    let vertices = c.args.vertices.now in
    record {
      extends = extends_more c.args.self.now c.loop-vertex.self c.mark.new.self inv.extends did.extends;
      only = λ v e. ⊎_elim
          (λ (was : is_marked c.loop-vertex.self.marks.items v ≡ true). inv.only v was)
          (λ here. inr (subst (Contains vertices) here (Contains-get_or vertices c.loop-vertex.vertex-index 0 (omega arith))))
          (did.only v e);
      all = below_more _ _ (λ n lt. did.extends.keeps _ (inv.all n lt)) did.here;
    }

pub returns-clause-all : goal.returns-clause-all
returns-clause-all c = λ v has.
    All-contains (λ w. is_marked c.loop-vertex.self.marks.items w ≡ true) c.args.vertices.now v
    (All-from_get_or (λ w. is_marked c.loop-vertex.self.marks.items w ≡ true) c.args.vertices.now 0 (λ k lt. c.loop-vertex.invariant.all k (omega arith))) has
