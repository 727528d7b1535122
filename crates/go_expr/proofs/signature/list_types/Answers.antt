use Rattle.std.proofs.Common.{map, ap, ◌∙◌}
use Rattle.std.proofs.lemmas.Result.{IfOk-weaker}
use Rattle.go_tree.specs.Tree.{kind_of, tree_of}
use Rattle.go_module.specs.Names.Inner.{is_named_param}
use Rattle.go_constructs.specs.Signatures.{param_types}
use Rattle.go_expr.proofs.SignatureLemmas.{any-trees}
use Rattle.go_expr.proofs.signature.list_types.Goals as goal

pub returns-clause-types : goal.returns-clause-types
returns-clause-types g c =
    let params = c.args.params.now in
    let types = map (g.J.Ask.tree c.args.judge.now) c.args.types.now in
    IfOk-weaker c.param_types.result _ _
    (λ list is. is ∙ ap (λ named. param_types named (map tree_of params) types) (c.has_named-named.ensures ∙ any-trees (λ t. is_named_param (kind_of t)) params))
    c.param_types.ensures.types
