use Rattle.std.proofs.Common.{◌≡◌, ℕ, ◌+◌}
use Rattle.go_term.specs.View.{type_of}
use Rattle.go_judge.specs.Types.Own.{Keeps}
use Rattle.go_judge.specs.Types.UnderlyingType.{most_steps, under, under_from}
use Rattle.go_judge.specs.Quests.{run}
use Rattle.go_subst.specs.Chains.{path_of}
use Rattle.go_subst.proofs.underlying.under.Given as goal

-- with the turns that are left the chain comes to what it comes to from its first type, and nothing else has changed
abbrev pub invariant-loop-turns : goal.invariant-loop-turns
invariant-loop-turns g l = record {
  chain : (n : ℕ) → n + l._turns ≡ most_steps → run (g.A.Ask.headers l.fn.ask) (under (type_of l.t)) ≡ run (g.A.Ask.headers l.fn.ask) (under_from n (path_of l.path) (type_of l.here));
  stays : Keeps (g.A.Ask.headers l.fn.ask) (g.A.Ask.headers l.ask) (g.A.Ask.names l.fn.ask) (g.A.Ask.names l.ask) (g.A.Ask.outcomes l.fn.ask) (g.A.Ask.outcomes l.ask) (g.A.Ask.is_spent l.fn.ask) (g.A.Ask.is_spent l.ask) (g.A.Ask.world l.fn.ask) (g.A.Ask.world l.ask) (g.A.Ask.is_type l.fn.ask) (g.A.Ask.is_type l.ask) (g.A.Ask.tree l.fn.ask) (g.A.Ask.tree l.ask);
}
