use Rattle.std.proofs.Common.{◌≡◌, ◌∙◌, subst}
use Rattle.go_tree.specs.declared.node_kind.NodeKind.{NodeKind}
use Rattle.go_tree.specs.Tree.{tree_of, parts_of}
use Rattle.go_form.specs.BuiltForms.{expression_parts}
use Rattle.go_form.specs.BuiltOperators.{operator_parts}
use Rattle.go_form.proofs.KindLemmas.{behind_operands}
use Rattle.go_form.proofs.built_forms.expression_parts.Goals as goal

pub returns-in_default : goal.returns-in_default
returns-in_default c =
    c.operator_parts.ensures
    ∙ subst (λ (kind : NodeKind). operator_parts kind (parts_of (tree_of c.args.node.now)) ≡ expression_parts kind (parts_of (tree_of c.args.node.now))) c.kind.ensures
    (behind_operands c.kind.result (parts_of (tree_of c.args.node.now)) c.in_default.not-IntLit c.in_default.not-FloatLit c.in_default.not-RuneLit c.in_default.not-StringLit c.in_default.not-Name c.in_default.not-SelectorExpr c.in_default.not-ParenExpr)
