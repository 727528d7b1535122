use Rattle.std.proofs.Common.{◌≡◌, ◌∙◌, subst}
use Rattle.go_tree.specs.declared.node_kind.NodeKind.{NodeKind}
use Rattle.go_tree.specs.Tree.{tree_of, parts_of}
use Rattle.go_form.specs.BuiltTypes.{type_parts}
use Rattle.go_form.specs.BuiltTypes.{literal_parts}
use Rattle.go_form.proofs.KindLemmas.{behind_types}
use Rattle.go_form.proofs.built_types.type_parts.Goals as goal

pub returns-in_default : goal.returns-in_default
returns-in_default c =
    c.literal_parts.ensures
    ∙ subst (λ (kind : NodeKind). literal_parts kind (parts_of (tree_of c.args.node.now)) ≡ type_parts kind (parts_of (tree_of c.args.node.now))) c.kind.ensures
    (behind_types c.kind.result (parts_of (tree_of c.args.node.now)) c.in_default.not-Name c.in_default.not-SelectorExpr c.in_default.not-IndexExpr c.in_default.not-ParenExpr c.in_default.not-StarExpr)
