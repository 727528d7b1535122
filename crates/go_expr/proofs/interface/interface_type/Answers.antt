use Rattle.std.proofs.Common.{List, map, sym, ap, ◌∙◌}
use Rattle.std.proofs.lemmas.Result.{IfOk-weaker}
use Rattle.go_tree.specs.Tree.{list_of, parts_of, tree_of}
use Rattle.go_term.specs.Types.{TypeData, interface_type, of_list}
use Rattle.go_constructs.specs.Interface.{elems_in}
use Rattle.go_expr.specs.TypeLiteral.{type_outcome, typed_outcome}
use Rattle.go_expr.proofs.interface.interface_type.Goals as goal

pub returns-in_ok-elems-in-Types-clause-outcome : goal.returns-in_ok-elems-in-Types-clause-outcome
returns-in_ok-elems-in-Types-clause-outcome g c =
    let tree = g.J.Ask.tree c.args.judge.now in
    let headers = g.J.Ask.headers c.args.judge.now in
    let home = (g.J.Ask.names c.args.judge.now).home in
    let elems = list_of (parts_of (tree_of c.args.node.now)) in
    let make = λ (ts : List TypeData). of_list interface_type (elems_in home elems ts) in
    let type = ap (of_list interface_type) (c.in_ok-elems-in-Types.ensures.elems ∙ ap (λ ts. elems_in home elems (map tree ts)) c.deref.ensures.value) in
    IfOk-weaker c.type_literal.result _ _
    (λ outcome is.
    is
    ∙ ap (type_outcome headers) type
    ∙ ap (typed_outcome tree headers make) (sym c.in-Types.is)
    ∙ c.in_ok-types.ensures.typed make)
    c.type_literal.ensures.outcome

pub returns-in-Without-clause-outcome : goal.returns-in-Without-clause-outcome
returns-in-Without-clause-outcome g c =
    let tree = g.J.Ask.tree c.args.judge.now in
    let headers = g.J.Ask.headers c.args.judge.now in
    let home = (g.J.Ask.names c.args.judge.now).home in
    let elems = list_of (parts_of (tree_of c.args.node.now)) in
    let make = λ (ts : List TypeData). of_list interface_type (elems_in home elems ts) in
    ap (typed_outcome tree headers make) (sym c.in-Without.is) ∙ c.in_ok-types.ensures.typed make
