use Rattle.std.proofs.Common.{◌≡◌, ◌++◌, Bor, List, sym, ap, ◌∙◌, arith}
use Rattle.std.specs.List.{flat_map}
use Rattle.std.proofs.lemmas.List.{append-nil, drop_all}
use Rattle.go_tree.specs.declared.node.Node.{Node}
use Rattle.go_tree.specs.Tree.{Tree, tree_of, kind_of}
use Rattle.go_module.specs.Names.Inner.{inner_parts}
use Rattle.go_names.proofs.WalkLemmas.{inner_part_smaller}
use Rattle.go_names.specs.Views.{trees_at}
use Rattle.go_operands.specs.Operands.{operands_from}
use Rattle.go_operands.proofs.OperandLemmas.{operands-inner}
use Rattle.go_operands.proofs.operands.+operands.Goals as goal

pub push_operands-push_handed-requires : goal.push_operands-push_handed-requires
push_operands-push_handed-requires t c =
    let smaller = inner_part_smaller c.deref-part-items.result.now c.in_ok-inner.inner.items (tree_of c.args.node.now) c.loop-part.part-index c.part-item.result c.deref-part-items.ensures.value c.in_ok-inner.ensures (omega arith) c.part-item.is in
    (omega (arith, smaller, c.decreases), tt)

pub push_operands-returns : goal.push_operands-returns
push_operands-returns t c =
    let items = c.deref-part-items.result.now in
    let node = tree_of c.args.node.now in
    let old = trees_at c.args.list.now.items in
    let new = trees_at c.loop-part.list.items in
    let from = operands_from (kind_of node) in
    let parts : trees_at items ≡ inner_parts node = ap trees_at c.deref-part-items.ensures.value ∙ c.in_ok-inner.ensures in
    sym (append-nil new)
    ∙ ap (λ (l : List (Bor Node)). new ++ flat_map from (trees_at l)) (sym (drop_all c.loop-part.part-index items c.loop-part-test.false))
    ∙ c.loop-part.invariant
    ∙ ap (λ (l : List Tree). old ++ flat_map from l) parts
    ∙ ap (λ (l : List Tree). old ++ l) (sym (operands-inner node))
