use Rattle.std.proofs.Common.{◌≡◌, ◌++◌, map, drop}
use Rattle.std.specs.List.{AllByRecursion}
use Rattle.go_judge.specs.Types.Own.{Keeps}
use Rattle.go_judge.specs.Types.TypeSets.{either_unions}
use Rattle.go_same.specs.Sets.{part_view}
use Rattle.go_same.proofs.either.products.Given as goal

abbrev pub invariant-loop-u : goal.invariant-loop-u
invariant-loop-u g l = record {
  keeps : Keeps (g.J.Ask.headers l.initial.judge) (g.J.Ask.headers l.judge) (g.J.Ask.names l.initial.judge) (g.J.Ask.names l.judge) (g.J.Ask.outcomes l.initial.judge) (g.J.Ask.outcomes l.judge) (g.J.Ask.is_spent l.initial.judge) (g.J.Ask.is_spent l.judge) (g.J.Ask.world l.initial.judge) (g.J.Ask.world l.judge) (g.J.Ask.is_type l.initial.judge) (g.J.Ask.is_type l.judge) (g.J.Ask.tree l.initial.judge) (g.J.Ask.tree l.judge);
  own_left : AllByRecursion (λ u. AllByRecursion (λ p. g.J.Ask.is_type l.initial.judge p.ty) u.items) (drop l.u-index l.us);
  own_all : AllByRecursion (λ u. AllByRecursion (λ p. g.J.Ask.is_type l.judge p.ty) u.items) l.all.items;
  made : map (λ u. map (part_view (g.J.Ask.tree l.judge)) u.items) l.all.items
      ++ either_unions (map (λ u. map (part_view (g.J.Ask.tree l.initial.judge)) u.items) (drop l.u-index l.us)) (map (λ u. map (part_view (g.J.Ask.tree l.initial.judge)) u.items) l.vs)
      ≡ either_unions (map (λ u. map (part_view (g.J.Ask.tree l.initial.judge)) u.items) l.us) (map (λ u. map (part_view (g.J.Ask.tree l.initial.judge)) u.items) l.vs);
}
