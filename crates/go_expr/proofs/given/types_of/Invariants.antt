use Rattle.std.proofs.Common.{◌≡◌, ◌++◌, drop, map}
use Rattle.std.specs.List.{AllByRecursion}
use Rattle.go_expr.specs.Given.{AreOwnRecs, recs_as, types_among}
use Rattle.go_expr.proofs.given.types_of.Given as goal

-- what is pushed, with the types of the records left, are all types
abbrev pub invariant-loop-rec : goal.invariant-loop-rec
invariant-loop-rec g l = record {
  types : map (g.J.Ask.tree l.judge) l.types.items ++ types_among (recs_as (g.J.Ask.tree l.judge) (drop l.rec-index l.recs)) ≡ types_among (recs_as (g.J.Ask.tree l.judge) l.recs);
  own : AllByRecursion (g.J.Ask.is_type l.judge) l.types.items;
  left : AreOwnRecs (g.J.Ask.is_type l.judge) (drop l.rec-index l.recs);
}
