use Rattle.std.proofs.Common.{rules, ◌<◌, ◌≤◌, List, length, map, ap, sym, ◌∙◌, arith}
use Rattle.go_tree.specs.declared.node.Node.{Node}
use Rattle.go_tree.specs.Tree.{tree_of, trees_of, node_count, node_count_of_all}
use Rattle.go_tree.proofs.TreeLemmas.{part_within, tree_of-out}
use Rattle.go_text.specs.Numbers.{numbered}
use Rattle.go_parse_s.proofs.WalkLemmas.{count_on, step_trees, step_seen, all_trees, all_seen, all_numbered-walk, count-walk}
use Rattle.go_parse_s.proofs.numbers.+number.Goals as goal

pub number_all-number_nodes-requires : goal.number_all-number_nodes-requires
number_all-number_nodes-requires t c =
    let i = c.loop-part.part-index in
    let same = c.part-item.is ∙ c.loop-part.invariant.0.1 i c.part-item.result (omega arith) in
    let within = part_within c.args.parts.now i c.part-item.result (omega arith) same in
    let equal = ap (λ (n : Node). node_count (tree_of n)) c.part-item.is in
    (omega (arith, within, equal, c.decreases), tt)

pub number_all-loop-part-preserved : goal.number_all-loop-part-preserved
number_all-loop-part-preserved t c =
    let i = c.loop-part.part-index in
    let n = c.loop-part.number in
    let lt : i < length c.loop-part.parts = omega (arith, c.loop-part.auto.parts) in
    let made = c.in_ok-number_nodes.ensures in (
      search rules,
      step_trees numbered count_on i n c.number_nodes.new.number c.loop-part.parts c.number_nodes.new.node c.part-item.result lt made.tree made.next ∙ c.loop-part.invariant.1,
      step_seen count_on i n c.number_nodes.new.number c.loop-part.parts c.number_nodes.new.node c.part-item.result lt made.next ∙ c.loop-part.invariant.2,
    )

pub number_all-returns-clause-trees : goal.number_all-returns-clause-trees
number_all-returns-clause-trees t c =
    let le : length c.loop-part.parts ≤ c.loop-part.part-index = omega (arith, c.loop-part.auto.parts, c.loop-part-test.false) in
    sym (all_trees numbered count_on c.loop-part.part-index c.loop-part.number c.loop-part.parts le) ∙ c.loop-part.invariant.1 ∙ all_numbered-walk c.args.number.now c.args.parts.now

pub number_all-returns-clause-next : goal.number_all-returns-clause-next
number_all-returns-clause-next t c =
    let le : length c.loop-part.parts ≤ c.loop-part.part-index = omega (arith, c.loop-part.auto.parts, c.loop-part-test.false) in
    sym (all_seen count_on c.loop-part.part-index c.loop-part.number c.loop-part.parts le) ∙ c.loop-part.invariant.2 ∙ count-walk c.args.number.now c.args.parts.now

pub number_nodes-returns-clause-next : goal.number_nodes-returns-clause-next
number_nodes-returns-clause-next t c =
    let parts = ap (λ (xs : List Node). node_count_of_all (trees_of (map tree_of xs))) c.deref_mut.ensures.value in
    let whole = ap node_count (tree_of-out c.args.node.now) in
    omega (arith, parts, whole, c.in_ok-number_all.ensures.next, c.in_ok-node.ensures.next)
