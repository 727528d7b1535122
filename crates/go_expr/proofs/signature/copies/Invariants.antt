use Rattle.std.proofs.Common.{◌≡◌, ◌++◌, drop, map}
use Rattle.std.specs.List.{AllByRecursion}
use Rattle.go_expr.proofs.signature.copies.Given as goal

-- what is pushed, with the types left, are all types
abbrev pub invariant-loop-ty : goal.invariant-loop-ty
invariant-loop-ty g l = record {
  types : map (g.J.Ask.tree l.judge) l.list.items ++ map (g.J.Ask.tree l.judge) (drop l.ty-index l.types) ≡ map (g.J.Ask.tree l.judge) l.types;
  own : AllByRecursion (g.J.Ask.is_type l.judge) l.list.items;
  left : AllByRecursion (g.J.Ask.is_type l.judge) (drop l.ty-index l.types);
}
