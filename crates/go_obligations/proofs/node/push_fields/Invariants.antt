use Rattle.std.proofs.Common.{◌≡◌, ◌++◌, drop, map}
use Rattle.go_tree.specs.Tree.{tree_of}
use Rattle.go_names.specs.Views.{trees_at}
use Rattle.go_obligations.specs.Owed.{AreOwnObligations, owed_by_fields, owed_view}
use Rattle.go_obligations.specs.Read.{outcome_read}
use Rattle.go_obligations.proofs.node.push_fields.Given as goal

-- what is pushed, with what the fields left demand, is what all fields demand
abbrev pub invariant-loop-place : goal.invariant-loop-place
invariant-loop-place g l =
    let read = outcome_read (g.W.Ask.outcomes l.walks) in
    record {
      own : AreOwnObligations (g.W.Ask.is_type l.walks) l.owed.items;
      owed : owed_view (g.W.Ask.tree l.walks) l.owed.items ++ owed_by_fields read l.spec.file l.spec.told_at (map tree_of (drop l.place l.fields)) (trees_at (drop l.place l.types)) ≡ owed_view (g.W.Ask.tree l.walks) l.fn.owed.items ++ owed_by_fields read l.spec.file l.spec.told_at (map tree_of l.fields) (trees_at l.types);
    }
