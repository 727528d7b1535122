use Rattle.std.proofs.Common.{◌≡◌, ◌++◌, drop, map}
use Rattle.std.specs.List.{AllByRecursion}
use Rattle.go_tree.specs.Tree.{tree_of}
use Rattle.go_term.specs.Shapes.{elem_tree}
use Rattle.go_constructs.specs.Interface.{elems_in}
use Rattle.go_judge.specs.Types.Own.{IsOwnElem}
use Rattle.go_expr.proofs.interface.elems_at.Given as goal

-- what is pushed, with the elements left, are all elements
abbrev pub invariant-loop-elem : goal.invariant-loop-elem
invariant-loop-elem g l = record {
  elems : map (elem_tree (g.J.Ask.tree l.judge)) l.list.items ++ elems_in l.home (map tree_of (drop l.elem-index l.elems)) (map (g.J.Ask.tree l.judge) l.left) ≡ elems_in l.home (map tree_of l.elems) (map (g.J.Ask.tree l.judge) l.types);
  own : AllByRecursion (IsOwnElem (g.J.Ask.is_type l.judge)) l.list.items;
  left : AllByRecursion (g.J.Ask.is_type l.judge) l.left;
}
