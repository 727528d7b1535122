use Rattle.std.proofs.Common.{◌≡◌, ◌++◌, drop, map}
use Rattle.std.specs.List.{AllByRecursion, flat_map}
use Rattle.go_model.specs.Obligations.Methods.{methods_in}
use Rattle.go_judge.specs.Types.Own.{Keeps}
use Rattle.go_obligations.specs.Methods.{AreOwnMethods, method_view}
use Rattle.go_obligations.proofs.methods.methods_of_all.Given as goal

-- the methods so far, with those of the types left, are those of all
abbrev pub invariant-loop-part : goal.invariant-loop-part
invariant-loop-part g l = record {
  keeps : Keeps (g.F.Ask.headers l.initial.judge) (g.F.Ask.headers l.judge) (g.F.Ask.names l.initial.judge) (g.F.Ask.names l.judge)
      (g.F.Ask.outcomes l.initial.judge) (g.F.Ask.outcomes l.judge) (g.F.Ask.is_spent l.initial.judge) (g.F.Ask.is_spent l.judge)
      (g.F.Ask.world l.initial.judge) (g.F.Ask.world l.judge) (g.F.Ask.is_type l.initial.judge) (g.F.Ask.is_type l.judge)
      (g.F.Ask.tree l.initial.judge) (g.F.Ask.tree l.judge);
  own : AllByRecursion (g.F.Ask.is_type l.initial.judge) (drop l.part-index l.parts);
  own_methods : AreOwnMethods (g.F.Ask.is_type l.judge) (g.F.Ask.tree l.judge) l.methods.items;
  left : map (method_view (g.F.Ask.tree l.judge)) l.methods.items ++ flat_map methods_in (map (g.F.Ask.tree l.initial.judge) (drop l.part-index l.parts))
      ≡ flat_map methods_in (map (g.F.Ask.tree l.initial.judge) l.parts);
}
