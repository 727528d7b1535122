use Rattle.std.proofs.Common.{◌≡◌, ◌∙◌, subst}
use Rattle.go_tree.specs.declared.node_kind.NodeKind.{NodeKind}
use Rattle.go_tree.specs.Tree.{tree_of, parts_of}
use Rattle.go_form.specs.BuiltTypes.{result_parts}
use Rattle.go_form.specs.BuiltTypes.{type_parts}
use Rattle.go_form.proofs.KindLemmas.{behind_list}
use Rattle.go_form.proofs.built_types.result_parts.Goals as goal

pub returns-in_default : goal.returns-in_default
returns-in_default c =
    c.type_parts.ensures
    ∙ subst (λ (kind : NodeKind). type_parts kind (parts_of (tree_of c.args.node.now)) ≡ result_parts kind (parts_of (tree_of c.args.node.now))) c.kind.ensures
    (behind_list c.kind.result (parts_of (tree_of c.args.node.now)) c.in_default.not-Params)
