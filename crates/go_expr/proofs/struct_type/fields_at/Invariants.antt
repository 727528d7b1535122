use Rattle.std.proofs.Common.{◌≡◌, ◌++◌, drop, map}
use Rattle.go_tree.specs.Tree.{tree_of}
use Rattle.go_term.specs.Shapes.{field_tree}
use Rattle.go_constructs.specs.Struct.{fields_in}
use Rattle.go_expr.specs.Elements.{AreOwnFields}
use Rattle.go_expr.proofs.struct_type.fields_at.Given as goal

-- what is pushed, with the declarations left, are all fields
abbrev pub invariant-loop-i : goal.invariant-loop-i
invariant-loop-i g l = record {
  fields : map (field_tree (g.J.Ask.tree l.judge)) l.list.items ++ fields_in l.home (map tree_of (drop l.i l.decls)) (map (g.J.Ask.tree l.judge) (drop l.i l.types)) ≡ fields_in l.home (map tree_of l.decls) (map (g.J.Ask.tree l.judge) l.types);
  own : AreOwnFields (g.J.Ask.is_type l.judge) l.list.items;
}
