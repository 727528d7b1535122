use Rattle.std.proofs.Common.{◌≡◌, ◌∷◌, ◌++◌, Bor, List, sym, ap, ◌∙◌, arith}
use Rattle.std.specs.List.{flat_map}
use Rattle.std.proofs.lemmas.List.{append-nil, drop_all}
use Rattle.go_tree.specs.declared.node.Node.{Node}
use Rattle.go_tree.specs.Tree.{Tree, tree_of}
use Rattle.go_operands.specs.Operands.{operands_of, expressions_in}
use Rattle.go_operands.proofs.OperandLemmas.{operand_part_smaller, expressions_in-operands}
use Rattle.go_names.specs.Views.{trees_at}
use Rattle.go_operands.proofs.operands.+push_expressions.Goals as goal

pub push_expressions-requires : goal.push_expressions-requires
push_expressions-requires t c =
    let smaller = operand_part_smaller c.deref-operand-items.result.now c.in_ok-operands.operands.items (tree_of c.args.node.now) c.loop-operand.operand-index c.operand-item.result c.deref-operand-items.ensures.value c.in_ok-operands.ensures (omega arith) c.operand-item.is in
    (omega (arith, smaller, c.decreases), tt)

pub returns : goal.returns
returns t c =
    let items = c.deref-operand-items.result.now in
    let node = tree_of c.args.node.now in
    let old = trees_at c.args.list.now.items in
    let new = trees_at c.loop-operand.list.items in
    let operands : trees_at items ≡ operands_of node = ap trees_at c.deref-operand-items.ensures.value ∙ c.in_ok-operands.ensures in
    sym (append-nil new)
    ∙ ap (λ (l : List (Bor Node)). new ++ flat_map expressions_in (trees_at l)) (sym (drop_all c.loop-operand.operand-index items c.loop-operand-test.false))
    ∙ c.loop-operand.invariant
    ∙ ap (λ (l : List Tree). old ++ (node ∷ flat_map expressions_in l)) operands
    ∙ ap (λ (l : List Tree). old ++ l) (sym (expressions_in-operands node))
