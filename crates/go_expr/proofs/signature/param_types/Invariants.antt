use Rattle.std.proofs.Common.{◌≡◌, ◌++◌, drop, map}
use Rattle.std.specs.List.{AllByRecursion}
use Rattle.go_tree.specs.Tree.{tree_of}
use Rattle.go_constructs.specs.Signatures.{param_types}
use Rattle.go_expr.proofs.signature.param_types.Given as goal

-- what is pushed, with the types of the parameters left, are all types
abbrev pub invariant-loop-param : goal.invariant-loop-param
invariant-loop-param g l = record {
  types : map (g.J.Ask.tree l.judge) l.list.items ++ param_types l.named (map tree_of (drop l.param-index l.params)) (map (g.J.Ask.tree l.judge) l.left) ≡ param_types l.named (map tree_of l.params) (map (g.J.Ask.tree l.judge) l.types);
  own : AllByRecursion (g.J.Ask.is_type l.judge) l.list.items;
  left : AllByRecursion (g.J.Ask.is_type l.judge) l.left;
}
