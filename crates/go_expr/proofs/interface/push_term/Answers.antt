use Rattle.std.proofs.Common.{◌++◌, map, ap}
use Rattle.go_tree.specs.Tree.{tree_of}
use Rattle.go_term.specs.Shapes.{union_tree}
use Rattle.go_expr.proofs.InterfaceLemmas.{terms-none}
use Rattle.go_expr.proofs.interface.push_term.Goals as goal

pub returns-in-empty-clause-pushed : goal.returns-in-empty-clause-pushed
returns-in-empty-clause-pushed g c = λ terms.
    let tree = g.J.Ask.tree c.args.judge.now in
    ap (λ ts. map (union_tree tree) c.args.list.now.items ++ ts) (terms-none tree (tree_of c.args.term.now) terms c.args.types.now c.in-empty.len_below)
