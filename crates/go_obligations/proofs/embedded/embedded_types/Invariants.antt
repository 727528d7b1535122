use Rattle.std.proofs.Common.{◌-◌, ◌^◌, map}
use Rattle.go_judge.specs.Types.Own.{Keeps}
use Rattle.go_obligations.specs.EmbeddedSearch.{IsSearch, IsSearched, is_opened}
use Rattle.go_obligations.proofs.embedded.embedded_types.Given as goal

abbrev pub invariant-loop-next : goal.invariant-loop-next
invariant-loop-next g l = record {
  keeps : Keeps (g.F.Ask.headers l.initial.judge) (g.F.Ask.headers l.judge) (g.F.Ask.names l.initial.judge) (g.F.Ask.names l.judge)
      (g.F.Ask.outcomes l.initial.judge) (g.F.Ask.outcomes l.judge) (g.F.Ask.is_spent l.initial.judge) (g.F.Ask.is_spent l.judge)
      (g.F.Ask.world l.initial.judge) (g.F.Ask.world l.judge) (g.F.Ask.is_type l.initial.judge) (g.F.Ask.is_type l.judge)
      (g.F.Ask.tree l.initial.judge) (g.F.Ask.tree l.judge);
  search : IsSearch (g.F.Ask.headers l.judge) (g.F.Ask.is_type l.judge) (g.F.Ask.tree l.judge) l.found.items (is_opened l.opened);
  searched : IsSearched (g.F.Ask.headers l.initial.judge) (g.F.Ask.tree l.initial.judge l.fn.t) (map (g.F.Ask.tree l.judge) l.found.items) l.next;
}

-- there are fewer types than 2 ^ 64
abbrev pub decreases-loop-next : goal.decreases-loop-next
decreases-loop-next g l = 2 ^ 64 - l.next
