use Rattle.std.proofs.Common.{◌≡◌, List, map, sym, ap, ◌∙◌}
use Rattle.std.proofs.lemmas.Result.{IfOk-weaker}
use Rattle.go_tree.specs.Tree.{tree_of}
use Rattle.go_term.specs.Shapes.{shape_tree}
use Rattle.go_term.specs.declared.shape.Shape.TheVariants.{Func}
use Rattle.go_term.specs.Types as types
use Rattle.go_term.specs.Types.{TypeData, made}
use Rattle.go_constructs.specs.Signatures.{is_variadic, types_in}
use Rattle.go_expr.specs.TypeLiteral.{type_outcome, typed_outcome}
use Rattle.go_expr.proofs.function.function_type.Goals as goal

pub returns-in_ok-signature-in-Types-clause-outcome : goal.returns-in_ok-signature-in-Types-clause-outcome
returns-in_ok-signature-in-Types-clause-outcome g c =
    let tree = g.J.Ask.tree c.args.judge.now in
    let headers = g.J.Ask.headers c.args.judge.now in
    let signature = tree_of c.args.signature.now in
    let make = λ (ts : List TypeData). made (types.function (is_variadic signature)) (types_in signature ts) in
    let f = c.in_ok-signature-in-Types in
    let parts = f.ensures.parts ∙ ap (λ ts. types_in signature (map tree ts)) c.deref.ensures.value in
    let type : shape_tree tree (Func f.signature) ≡ make (map tree c.in-Types.types.items) = λ i. made (types.function (f.ensures.variadic i)) (parts i) in
    IfOk-weaker c.type_literal.result _ _
    (λ outcome is.
    is
    ∙ ap (type_outcome headers) type
    ∙ ap (typed_outcome tree headers make) (sym c.in-Types.is)
    ∙ c.in_ok-types.ensures.typed make)
    c.type_literal.ensures.outcome

pub returns-in-Without-clause-outcome : goal.returns-in-Without-clause-outcome
returns-in-Without-clause-outcome g c =
    let tree = g.J.Ask.tree c.args.judge.now in
    let headers = g.J.Ask.headers c.args.judge.now in
    let signature = tree_of c.args.signature.now in
    let make = λ (ts : List TypeData). made (types.function (is_variadic signature)) (types_in signature ts) in
    ap (typed_outcome tree headers make) (sym c.in-Without.is) ∙ c.in_ok-types.ensures.typed make
