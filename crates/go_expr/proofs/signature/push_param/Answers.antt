use Rattle.std.proofs.Common.{◌++◌, map, ap}
use Rattle.go_tree.specs.Tree.{tree_of}
use Rattle.go_expr.proofs.SignatureLemmas.{params-none}
use Rattle.go_expr.proofs.signature.push_param.Goals as goal

pub returns-in-empty-clause-pushed : goal.returns-in-empty-clause-pushed
returns-in-empty-clause-pushed g c = λ params.
    let tree = g.J.Ask.tree c.args.judge.now in
    ap (λ ts. map tree c.args.list.now.items ++ ts) (params-none tree c.args.named (tree_of c.args.param.now) params c.args.types.now c.in-empty.len_below)
