use Rattle.std.proofs.Common.{◌≡◌, ◌++◌, ◌+◌, ◌*◌, drop}
use Rattle.std.specs.List.{AllByRecursion}
use Rattle.go_term.specs.Shapes.{shape_tree}
use Rattle.go_term.specs.Size.{depth}
use Rattle.go_judge.specs.Types.Own.{Keeps}
use Rattle.go_by_value.proofs.HeldLemmas.{deepest, held_in_fields}
use Rattle.go_by_value.proofs.held.+push_held.Given as goal

abbrev pub decreases-push_held : goal.decreases-push_held
decreases-push_held g l = 3 * depth (g.F.Ask.tree l.judge.now l.t.now) + 2

abbrev pub decreases-push_held_at : goal.decreases-push_held_at
decreases-push_held_at g l = 3 * depth (shape_tree (g.F.Ask.tree l.judge.now) l.shape.now) + 1

abbrev pub decreases-push_held_in_fields : goal.decreases-push_held_in_fields
decreases-push_held_in_fields g l = 3 * deepest (g.F.Ask.tree l.judge.now) l.fields.now + 3

-- what was found so far, with what the fields left hold, is what all fields hold
abbrev pub invariant-push_held_in_fields-loop-field : goal.invariant-push_held_in_fields-loop-field
invariant-push_held_in_fields-loop-field g l = record {
  keeps : Keeps (g.F.Ask.headers l.initial.judge) (g.F.Ask.headers l.judge) (g.F.Ask.names l.initial.judge) (g.F.Ask.names l.judge)
      (g.F.Ask.outcomes l.initial.judge) (g.F.Ask.outcomes l.judge) (g.F.Ask.is_spent l.initial.judge) (g.F.Ask.is_spent l.judge)
      (g.F.Ask.world l.initial.judge) (g.F.Ask.world l.judge) (g.F.Ask.is_type l.initial.judge) (g.F.Ask.is_type l.judge)
      (g.F.Ask.tree l.initial.judge) (g.F.Ask.tree l.judge);
  own : AllByRecursion (λ f. g.F.Ask.is_type l.initial.judge f.ty) (drop l.field-index l.fields);
  held : l.found.items ++ held_in_fields (g.F.Ask.tree l.initial.judge) (drop l.field-index l.fields)
      ≡ l.initial.found.items ++ held_in_fields (g.F.Ask.tree l.initial.judge) l.fields;
}
