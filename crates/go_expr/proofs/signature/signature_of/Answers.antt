use Rattle.std.proofs.Common.{◌≡◌, length, sym, ap, ◌∙◌, arith}
use Rattle.std.specs.List.{list_any}
use Rattle.std.proofs.lemmas.List.{length-map}
use Rattle.go_tree.specs.Tree.{kind_of, list_of, parts_of, tree_of}
use Rattle.go_operands.specs.Operands.{operands_of}
use Rattle.go_constructs.specs.Signatures.{is_dotted, many_params}
use Rattle.go_expr.proofs.SignatureLemmas.{any-trees, signature-parts}
use Rattle.go_expr.proofs.signature.signature_of.Goals as goal

pub returns-clause-parts : goal.returns-clause-parts
returns-clause-parts g c =
    let params = c.part_list-params.ensures ∙ ap (λ t. list_of (parts_of t)) c.first_part-params.ensures in
    let many_listed : c.len-many.result ≡ length c.in_ok-operands_of.field-0.items = omega (arith, c.len-many.ensures, c.in_ok-operands_of.field-0.ok.0) in
    let many : c.len-many.result ≡ many_params (tree_of c.args.signature.now) =
    many_listed
    ∙ sym (length-map c.in_ok-operands_of.field-0.items (λ node. tree_of node.now))
    ∙ ap length (c.in_ok-operands_of.ensures ∙ ap operands_of c.first_part-params.ensures) in
    signature-parts (g.J.Ask.tree c.args.judge.now) (tree_of c.args.signature.now) c.args.types.now c.in_ok-list_types.field-0.items c.in_ok-result_types.field-0.items
    c.first_types.result.now c.types_behind.result.now _ _ c.len-many.result c.in_ok-list_types.ensures.types c.in_ok-result_types.ensures.types params c.all_but_first.ensures
    c.first_types.ensures c.types_behind.ensures many

pub returns-clause-variadic : goal.returns-clause-variadic
returns-clause-variadic g c =
    let params = c.part_list-params.ensures ∙ ap (λ t. list_of (parts_of t)) c.first_part-params.ensures in
    c.has_dots.ensures ∙ any-trees (λ t. is_dotted (kind_of t)) c.part_list-params.result.now ∙ ap (list_any (λ t. is_dotted (kind_of t))) params
