use Rattle.std.proofs.Common.{◌≡◌, drop, map}
use Rattle.std.specs.List.{list_any}
use Rattle.go_model.specs.Obligations.Constraints.{adds_terms}
use Rattle.go_judge.specs.Types.Own.{Keeps}
use Rattle.go_obligations.proofs.constraint.any_adds_terms.Given as goal

-- whether one of those left does is whether one of all does
abbrev pub invariant-loop-t : goal.invariant-loop-t
invariant-loop-t g l = record {
  keeps : Keeps (g.F.Ask.headers l.initial.judge) (g.F.Ask.headers l.judge) (g.F.Ask.names l.initial.judge) (g.F.Ask.names l.judge)
      (g.F.Ask.outcomes l.initial.judge) (g.F.Ask.outcomes l.judge) (g.F.Ask.is_spent l.initial.judge) (g.F.Ask.is_spent l.judge)
      (g.F.Ask.world l.initial.judge) (g.F.Ask.world l.judge) (g.F.Ask.is_type l.initial.judge) (g.F.Ask.is_type l.judge)
      (g.F.Ask.tree l.initial.judge) (g.F.Ask.tree l.judge);
  any : list_any adds_terms (map (g.F.Ask.tree l.initial.judge) (drop l.t-index l.types)) ≡ list_any adds_terms (map (g.F.Ask.tree l.initial.judge) l.types);
}
