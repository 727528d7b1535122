use Rattle.std.proofs.Common.{◌≡◌, ◌++◌, drop, map}
use Rattle.std.specs.List.{AllByRecursion}
use Rattle.go_tree.specs.Tree.{tree_of}
use Rattle.go_term.specs.Shapes.{union_tree}
use Rattle.go_constructs.specs.Interface.{terms_in}
use Rattle.go_expr.proofs.interface.terms_of.Given as goal

-- what is pushed, with the terms left, are all terms
abbrev pub invariant-loop-term : goal.invariant-loop-term
invariant-loop-term g l = record {
  terms : map (union_tree (g.J.Ask.tree l.judge)) l.list.items ++ terms_in (map tree_of (drop l.term-index l.terms)) (map (g.J.Ask.tree l.judge) l.left) ≡ terms_in (map tree_of l.terms) (map (g.J.Ask.tree l.judge) l.types);
  own : AllByRecursion (λ u. g.J.Ask.is_type l.judge u.ty) l.list.items;
  left : AllByRecursion (g.J.Ask.is_type l.judge) l.left;
}
