use Rattle.std.proofs.Common.{◌≡◌, drop}
use Rattle.go_judge.specs.Types.Own.{Keeps}
use Rattle.go_obligations.specs.Conflicts.{differ, differs_from_any}
use Rattle.go_obligations.specs.Methods.{AreOwnMethods}
use Rattle.go_obligations.proofs.conflicts.differs_from_any.Given as goal

-- one of the methods left differs where one of all does
abbrev pub invariant-loop-other : goal.invariant-loop-other
invariant-loop-other g l =
    let apart = differ (g.J.Ask.headers l.initial.judge) (g.J.Ask.tree l.initial.judge) in
    record {
      keeps : Keeps (g.J.Ask.headers l.initial.judge) (g.J.Ask.headers l.judge) (g.J.Ask.names l.initial.judge) (g.J.Ask.names l.judge)
          (g.J.Ask.outcomes l.initial.judge) (g.J.Ask.outcomes l.judge) (g.J.Ask.is_spent l.initial.judge) (g.J.Ask.is_spent l.judge)
          (g.J.Ask.world l.initial.judge) (g.J.Ask.world l.judge) (g.J.Ask.is_type l.initial.judge) (g.J.Ask.is_type l.judge)
          (g.J.Ask.tree l.initial.judge) (g.J.Ask.tree l.judge);
      own : AreOwnMethods (g.J.Ask.is_type l.initial.judge) (g.J.Ask.tree l.initial.judge) (drop l.other-index l.methods);
      left : differs_from_any apart (drop l.other-index l.methods) l.method ≡ differs_from_any apart l.methods l.method;
    }
