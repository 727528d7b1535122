use Rattle.std.proofs.Common.{map, take}
use Rattle.go_judge.specs.Types.Own.{Keeps}
use Rattle.go_obligations.specs.EmbeddedSearch.{IsSearch, Opens, is_opened}
use Rattle.go_obligations.proofs.embedded.open_all.Given as goal

abbrev pub invariant-loop-t : goal.invariant-loop-t
invariant-loop-t g l = record {
  keeps : Keeps (g.F.Ask.headers l.initial.judge) (g.F.Ask.headers l.judge) (g.F.Ask.names l.initial.judge) (g.F.Ask.names l.judge)
      (g.F.Ask.outcomes l.initial.judge) (g.F.Ask.outcomes l.judge) (g.F.Ask.is_spent l.initial.judge) (g.F.Ask.is_spent l.judge)
      (g.F.Ask.world l.initial.judge) (g.F.Ask.world l.judge) (g.F.Ask.is_type l.initial.judge) (g.F.Ask.is_type l.judge)
      (g.F.Ask.tree l.initial.judge) (g.F.Ask.tree l.judge);
  search : IsSearch (g.F.Ask.headers l.judge) (g.F.Ask.is_type l.judge) (g.F.Ask.tree l.judge) l.found.items (is_opened l.opened);
  opens : Opens (g.F.Ask.headers l.initial.judge) (map (g.F.Ask.tree l.initial.judge) (take l.t-index l.types))
      (map (g.F.Ask.tree l.initial.judge) l.initial.found.items) (map (g.F.Ask.tree l.judge) l.found.items);
}
