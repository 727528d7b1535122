use Rattle.std.proofs.Common.{◌≡◌, ◌++◌, map, drop}
use Rattle.std.specs.List.{AllByRecursion}
use Rattle.go_judge.specs.Types.Own.{Keeps}
use Rattle.go_same.specs.Sets.{part_view}
use Rattle.go_same.proofs.either.with_each.Given as goal

abbrev pub invariant-loop-v : goal.invariant-loop-v
invariant-loop-v g l = record {
  keeps : Keeps (g.J.Ask.headers l.initial.judge) (g.J.Ask.headers l.judge) (g.J.Ask.names l.initial.judge) (g.J.Ask.names l.judge) (g.J.Ask.outcomes l.initial.judge) (g.J.Ask.outcomes l.judge) (g.J.Ask.is_spent l.initial.judge) (g.J.Ask.is_spent l.judge) (g.J.Ask.world l.initial.judge) (g.J.Ask.world l.judge) (g.J.Ask.is_type l.initial.judge) (g.J.Ask.is_type l.judge) (g.J.Ask.tree l.initial.judge) (g.J.Ask.tree l.judge);
  own_left : AllByRecursion (λ u. AllByRecursion (λ p. g.J.Ask.is_type l.initial.judge p.ty) u.items) (drop l.v-index l.vs);
  own_all : AllByRecursion (λ u. AllByRecursion (λ p. g.J.Ask.is_type l.judge p.ty) u.items) l.all.items;
  made : map (λ u. map (part_view (g.J.Ask.tree l.judge)) u.items) l.all.items
      ++ map (λ v. map (part_view (g.J.Ask.tree l.initial.judge)) l.u ++ map (part_view (g.J.Ask.tree l.initial.judge)) v.items) (drop l.v-index l.vs)
      ≡ map (λ u. map (part_view (g.J.Ask.tree l.initial.judge)) u.items) l.initial.all.items
      ++ map (λ v. map (part_view (g.J.Ask.tree l.initial.judge)) l.u ++ map (part_view (g.J.Ask.tree l.initial.judge)) v.items) l.vs;
}
