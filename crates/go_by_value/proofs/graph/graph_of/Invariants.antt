use Rattle.std.proofs.Common.{◌≡◌, ◌++◌, drop}
use Rattle.go_names.specs.Views.{declarations_view}
use Rattle.go_cycles.specs.Places.{placed_by}
use Rattle.go_judge.specs.Types.Own.{Keeps}
use Rattle.go_by_value.specs.Holding.{graph_of}
use Rattle.go_by_value.proofs.graph.graph_of.Given as goal

-- the rows so far, with those of the declarations left, are those of all
abbrev pub invariant-loop-declaration : goal.invariant-loop-declaration
invariant-loop-declaration g l =
    let rows = graph_of (placed_by l.places.entries) (g.F.Ask.headers l.initial.judge) in
    record {
      keeps : Keeps (g.F.Ask.headers l.initial.judge) (g.F.Ask.headers l.judge) (g.F.Ask.names l.initial.judge) (g.F.Ask.names l.judge)
          (g.F.Ask.outcomes l.initial.judge) (g.F.Ask.outcomes l.judge) (g.F.Ask.is_spent l.initial.judge) (g.F.Ask.is_spent l.judge)
          (g.F.Ask.world l.initial.judge) (g.F.Ask.world l.judge) (g.F.Ask.is_type l.initial.judge) (g.F.Ask.is_type l.judge)
          (g.F.Ask.tree l.initial.judge) (g.F.Ask.tree l.judge);
      rows : l.graph.items ++ rows (declarations_view (drop l.declaration-index l.declarations)) ≡ rows (declarations_view l.declarations);
    }
