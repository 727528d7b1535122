use Rattle.std.proofs.Common.{◌≡◌, ◌++◌, map, drop}
use Rattle.std.specs.List.{AllByRecursion}
use Rattle.go_judge.specs.Types.Own.{Keeps}
use Rattle.go_same.specs.Sets.{part_view}
use Rattle.go_same.proofs.either.with_copies.Given as goal

abbrev pub invariant-loop-p : goal.invariant-loop-p
invariant-loop-p g l = record {
  keeps : Keeps (g.J.Ask.headers l.initial.judge) (g.J.Ask.headers l.judge) (g.J.Ask.names l.initial.judge) (g.J.Ask.names l.judge) (g.J.Ask.outcomes l.initial.judge) (g.J.Ask.outcomes l.judge) (g.J.Ask.is_spent l.initial.judge) (g.J.Ask.is_spent l.judge) (g.J.Ask.world l.initial.judge) (g.J.Ask.world l.judge) (g.J.Ask.is_type l.initial.judge) (g.J.Ask.is_type l.judge) (g.J.Ask.tree l.initial.judge) (g.J.Ask.tree l.judge);
  own_left : AllByRecursion (λ p. g.J.Ask.is_type l.initial.judge p.ty) (drop l.p-index l.parts);
  own_all : AllByRecursion (λ p. g.J.Ask.is_type l.judge p.ty) l.all.items;
  made : map (part_view (g.J.Ask.tree l.judge)) l.all.items ++ map (part_view (g.J.Ask.tree l.initial.judge)) (drop l.p-index l.parts)
      ≡ map (part_view (g.J.Ask.tree l.initial.judge)) l.initial.all.items ++ map (part_view (g.J.Ask.tree l.initial.judge)) l.parts;
}
