use Rattle.go_judge.specs.Types.Own.{Keeps}
use Rattle.go_same.proofs.kept.is_kept.Given as goal

abbrev pub invariant-loop-i : goal.invariant-loop-i
invariant-loop-i g l = Keeps (g.J.Ask.headers l.initial.judge) (g.J.Ask.headers l.judge) (g.J.Ask.names l.initial.judge) (g.J.Ask.names l.judge) (g.J.Ask.outcomes l.initial.judge) (g.J.Ask.outcomes l.judge) (g.J.Ask.is_spent l.initial.judge) (g.J.Ask.is_spent l.judge) (g.J.Ask.world l.initial.judge) (g.J.Ask.world l.judge) (g.J.Ask.is_type l.initial.judge) (g.J.Ask.is_type l.judge) (g.J.Ask.tree l.initial.judge) (g.J.Ask.tree l.judge)
