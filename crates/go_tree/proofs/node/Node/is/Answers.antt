use denote.Enum.Bare.{same_true, true_same}
use Rattle.std.proofs.Common.{sym, ◌∙◌}
use Rattle.go_tree.specs.contracts.node_kind.NodeKind.{the_type}
use Rattle.go_tree.proofs.node.Node.is.Goals as goal

pub returns : goal.returns
returns c = (
  λ same. sym c.kind.ensures ∙ sym (same_true the_type tt _ _ (sym c.eq.ensures ∙ same)),
  λ same. c.eq.ensures ∙ true_same the_type _ _ (sym (c.kind.ensures ∙ same)),
)
