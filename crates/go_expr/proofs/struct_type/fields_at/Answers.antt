use Rattle.std.proofs.Common.{◌≤◌, min, length, map, arith}
use Rattle.go_tree.specs.Tree.{tree_of}
use Rattle.go_term.specs.Shapes.{field_tree}
use Rattle.go_expr.proofs.StructLemmas.{fields_done}
use Rattle.go_expr.proofs.struct_type.fields_at.Goals as goal

pub returns-clause-fields : goal.returns-clause-fields
returns-clause-fields g c =
    let tree = g.J.Ask.tree c.args.judge.now in
    let behind : min (length c.args.decls.now) (length c.args.types.now) ≤ c.loop-i.i = omega arith in
    fields_done c.args.home.now tree_of tree c.args.decls.now c.args.types.now c.loop-i.i (map (field_tree tree) c.loop-i.list.items) _ behind c.loop-i.invariant.fields
