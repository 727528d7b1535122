use Rattle.std.proofs.Common.{Bool, not, List, sym, ap, ◌∙◌}
use Rattle.std.specs.Borrow.{Bor}
use Rattle.go_tree.specs.declared.node.Node.{Node}
use Rattle.go_tree.specs.Tree.{tree_of, kind_of}
use Rattle.go_module.specs.Names.Inner as spec
use Rattle.go_names.proofs.InnerLemmas.{last_alone-more_found, last_alone-more_other}
use Rattle.go_names.proofs.inner.behind_names.Goals.{then-not-is_tag, else-not-is_tag}
use Rattle.go_names.proofs.inner.behind_names.Goals as goal

pub loop-i-preserved : goal.loop-i-preserved
loop-i-preserved c =
    let is_no_tag : Node → Bool = λ part. not (spec.is_tag_kind (kind_of (tree_of part))) in
    elim c.if-not-is_tag.branch [
      | then-not-is_tag w ↦
          ap (λ (part : Bor (List Node)). part.now) w.last-is
          ∙ last_alone-more_found is_no_tag c.args.parts.now c.loop-i.i c.index-parts-i.result c.loop-i-test.true c.index-parts-i.is (ap not (sym c.is_tag.ensures ∙ w.if-not-is_tag.true))
      | else-not-is_tag w ↦
          ap (λ (part : Bor (List Node)). part.now) w.last-is
          ∙ c.loop-i.invariant
          ∙ last_alone-more_other is_no_tag c.args.parts.now c.loop-i.i c.index-parts-i.result c.loop-i-test.true c.index-parts-i.is (ap not (sym c.is_tag.ensures ∙ w.if-not-is_tag.false))
    ]
