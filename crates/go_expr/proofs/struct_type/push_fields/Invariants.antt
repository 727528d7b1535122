use Rattle.std.proofs.Common.{◌≡◌, ◌++◌, drop, map}
use Rattle.go_tree.specs.Tree.{tree_of}
use Rattle.go_term.specs.Shapes.{field_tree}
use Rattle.go_constructs.specs.Struct.{field_by}
use Rattle.go_names.specs.Views.{trees_at}
use Rattle.go_expr.specs.Elements.{AreOwnFields}
use Rattle.go_expr.proofs.struct_type.push_fields.Given as goal

-- what is pushed, with the names left, are the fields of all names
abbrev pub invariant-loop-name : goal.invariant-loop-name
invariant-loop-name g l =
    let tree = g.J.Ask.tree l.judge in
    let field = field_by l.home (tree_of l.decl) (tree l.ty) in
    record {
      fields : map (field_tree tree) l.list.items ++ map field (trees_at (drop l.name-index l.name-items)) ≡ map (field_tree tree) l.fn.list.items ++ map field (trees_at l.name-items);
      own : AreOwnFields (g.J.Ask.is_type l.judge) l.list.items;
    }
