use Rattle.std.proofs.Common.{◌≡◌, ℕ, drop, map}
use Rattle.std.specs.List.{flat_map}
use Rattle.go_tree.specs.Tree.{tree_of}
use Rattle.go_operands.specs.Operands.{expressions_in}
use Rattle.go_model.specs.Outcomes.Walked.{walked_over}
use Rattle.go_judge.specs.Types.Own.{KeepsTypes}
use Rattle.go_decl.proofs.walked.walk_nodes.Given as goal

-- what stands from the place on is walked, the last first
abbrev pub invariant-loop-place : goal.invariant-loop-place
invariant-loop-place g l = record {
  same : g.W.Ask.headers l.walks ≡ g.W.Ask.headers l.fn.walks;
  names : g.W.Ask.names l.walks ≡ g.W.Ask.names l.fn.walks;
  world : g.W.Ask.world l.walks ≡ g.W.Ask.world l.fn.walks;
  types : KeepsTypes (g.W.Ask.is_type l.fn.walks) (g.W.Ask.is_type l.walks) (g.W.Ask.tree l.fn.walks) (g.W.Ask.tree l.walks);
  reached : (n : ℕ) → g.W.Ask.outcomes l.walks n ≡ walked_over (g.W.Ask.names l.fn.walks) (g.W.Ask.headers l.fn.walks) (flat_map expressions_in (map tree_of (drop l.place l.nodes))) (g.W.Ask.outcomes l.fn.walks) n;
}
