use Rattle.std.proofs.Common.{◌≡◌, map, drop}
use Rattle.go_judge.specs.Types.Own.{Keeps}
use Rattle.go_judge.specs.Types.TypeIdentity.{ask_each, fit}
use Rattle.go_judge.specs.Types.TypeSets.{MethodData}
use Rattle.go_judge.specs.Quests.{Done, run}
use Rattle.go_same.specs.MethodOrder.{views_at}
use Rattle.go_same.specs.Sets.{method_view}
use Rattle.go_same.proofs.identity.methods_fit.Given as goal

-- what is left of the pairs answers the whole
abbrev pub invariant-loop-i : goal.invariant-loop-i
invariant-loop-i g l = record {
  keeps : Keeps (g.J.Ask.headers l.initial.judge) (g.J.Ask.headers l.judge) (g.J.Ask.names l.initial.judge) (g.J.Ask.names l.judge) (g.J.Ask.outcomes l.initial.judge) (g.J.Ask.outcomes l.judge) (g.J.Ask.is_spent l.initial.judge) (g.J.Ask.is_spent l.judge) (g.J.Ask.world l.initial.judge) (g.J.Ask.world l.judge) (g.J.Ask.is_type l.initial.judge) (g.J.Ask.is_type l.judge) (g.J.Ask.tree l.initial.judge) (g.J.Ask.tree l.judge);
  left : (other : MethodData) → run (g.J.Ask.headers l.initial.judge) (ask_each (λ p. Done (fit p.0.type p.1.type)) (map (views_at (map (method_view (g.J.Ask.tree l.initial.judge)) l.ms) (map (method_view (g.J.Ask.tree l.initial.judge)) l.ns) other) (drop l.i-index l.pairs)))
      ≡ run (g.J.Ask.headers l.initial.judge) (ask_each (λ p. Done (fit p.0.type p.1.type)) (map (views_at (map (method_view (g.J.Ask.tree l.initial.judge)) l.ms) (map (method_view (g.J.Ask.tree l.initial.judge)) l.ns) other) l.pairs));
}
