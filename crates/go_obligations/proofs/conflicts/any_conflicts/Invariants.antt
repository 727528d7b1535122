use Rattle.std.proofs.Common.{ℕ, ◌<◌, false}
use Rattle.go_judge.specs.Types.Own.{Keeps}
use Rattle.go_obligations.specs.Conflicts.{ConflictsAt, differ}
use Rattle.go_obligations.specs.Methods.{AreOwnMethods}
use Rattle.go_obligations.proofs.conflicts.any_conflicts.Given as goal

-- no method before the place is in conflict
abbrev pub invariant-loop-place : goal.invariant-loop-place
invariant-loop-place g l =
    let apart = differ (g.J.Ask.headers l.initial.judge) (g.J.Ask.tree l.initial.judge) in
    record {
      keeps : Keeps (g.J.Ask.headers l.initial.judge) (g.J.Ask.headers l.judge) (g.J.Ask.names l.initial.judge) (g.J.Ask.names l.judge)
          (g.J.Ask.outcomes l.initial.judge) (g.J.Ask.outcomes l.judge) (g.J.Ask.is_spent l.initial.judge) (g.J.Ask.is_spent l.judge)
          (g.J.Ask.world l.initial.judge) (g.J.Ask.world l.judge) (g.J.Ask.is_type l.initial.judge) (g.J.Ask.is_type l.judge)
          (g.J.Ask.tree l.initial.judge) (g.J.Ask.tree l.judge);
      own : AreOwnMethods (g.J.Ask.is_type l.initial.judge) (g.J.Ask.tree l.initial.judge) l.methods;
      none : (i : ℕ) → i < l.place → ConflictsAt apart l.methods l.firsts.entries i false;
    }
