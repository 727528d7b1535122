use Rattle.std.proofs.Common.{◌≡◌, ◌++◌, map}
use Rattle.std.specs.List.{AllByRecursion, flat_map}
use Rattle.std.specs.Vec.Iter.{into_iter_items}
use Rattle.go_term.specs.Shapes.{elem_tree}
use Rattle.go_model.specs.Obligations.Methods.{method_in}
use Rattle.go_judge.specs.Types.Own.{IsOwnElem, Keeps}
use Rattle.go_obligations.specs.Methods.{AreOwnMethods, method_view}
use Rattle.go_obligations.proofs.methods.push_each.Given as goal

-- the methods so far, with those among the elements left, are those before and those among all
abbrev pub invariant-loop-elem : goal.invariant-loop-elem
invariant-loop-elem g l = record {
  keeps : Keeps (g.F.Ask.headers l.initial.judge) (g.F.Ask.headers l.judge) (g.F.Ask.names l.initial.judge) (g.F.Ask.names l.judge)
      (g.F.Ask.outcomes l.initial.judge) (g.F.Ask.outcomes l.judge) (g.F.Ask.is_spent l.initial.judge) (g.F.Ask.is_spent l.judge)
      (g.F.Ask.world l.initial.judge) (g.F.Ask.world l.judge) (g.F.Ask.is_type l.initial.judge) (g.F.Ask.is_type l.judge)
      (g.F.Ask.tree l.initial.judge) (g.F.Ask.tree l.judge);
  own : AllByRecursion (IsOwnElem (g.F.Ask.is_type l.initial.judge)) (into_iter_items l.elem-iterator);
  own_methods : AreOwnMethods (g.F.Ask.is_type l.judge) (g.F.Ask.tree l.judge) l.methods.items;
  left : map (method_view (g.F.Ask.tree l.judge)) l.methods.items ++ flat_map method_in (map (elem_tree (g.F.Ask.tree l.initial.judge)) (into_iter_items l.elem-iterator))
      ≡ map (method_view (g.F.Ask.tree l.initial.judge)) l.initial.methods.items ++ flat_map method_in (map (elem_tree (g.F.Ask.tree l.initial.judge)) l.fn.elems.items);
}
