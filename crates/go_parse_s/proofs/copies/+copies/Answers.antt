use Rattle.std.proofs.Common.{rules, ◌<◌, ◌≤◌, length, map, ap, sym, ◌∙◌, arith, refl}
use Rattle.go_tree.specs.declared.node.Node.{Node}
use Rattle.go_tree.specs.Tree.{no_trees, tree_of, trees_of, node_count}
use Rattle.go_tree.proofs.TreeLemmas.{part_within}
use Rattle.go_text.specs.Copies.{completed, list_behind}
use Rattle.go_parse_s.proofs.WalkLemmas.{step_trees, all_trees}
use Rattle.go_parse_s.proofs.CopyLemmas.{alone, nothing, in_group, list_after, all-walk, specs-walk}
use Rattle.go_parse_s.proofs.copies.+copies.Goals as goal

pub add_to_all-add_copies-requires : goal.add_to_all-add_copies-requires
add_to_all-add_copies-requires t c =
    let i = c.loop-part.part-index in
    let same = c.part-item.is ∙ c.loop-part.invariant.0.1 i c.part-item.result (omega arith) in
    let within = part_within c.args.parts.now i c.part-item.result (omega arith) same in
    let equal = ap (λ (n : Node). node_count (tree_of n)) c.part-item.is in
    (omega (arith, within, equal, c.decreases), tt)

pub add_to_all-loop-part-preserved : goal.add_to_all-loop-part-preserved
add_to_all-loop-part-preserved t c =
    let i = c.loop-part.part-index in
    let lt : i < length c.loop-part.parts = omega (arith, c.loop-part.auto.parts) in
    (search rules, step_trees alone nothing i tt tt c.loop-part.parts c.add_copies.new.node c.part-item.result lt c.in_ok-add_copies.ensures refl ∙ c.loop-part.invariant.1)

pub add_to_all-returns : goal.add_to_all-returns
add_to_all-returns t c =
    let le : length c.loop-part.parts ≤ c.loop-part.part-index = omega (arith, c.loop-part.auto.parts, c.loop-part-test.false) in
    sym (all_trees alone nothing c.loop-part.part-index tt c.loop-part.parts le) ∙ c.loop-part.invariant.1 ∙ all-walk c.args.parts.now

pub add_to_specs-add_copies-requires : goal.add_to_specs-add_copies-requires
add_to_specs-add_copies-requires t c =
    let i = c.loop-spec.spec-index in
    let same = c.spec-item.is ∙ c.loop-spec.invariant.0.1 i c.spec-item.result (omega arith) in
    let within = part_within c.args.specs.now i c.spec-item.result (omega arith) same in
    let equal = ap (λ (n : Node). node_count (tree_of n)) c.spec-item.is in
    (omega (arith, within, equal, c.decreases), tt)

pub add_to_specs-loop-spec-preserved : goal.add_to_specs-loop-spec-preserved
add_to_specs-loop-spec-preserved t c =
    let i = c.loop-spec.spec-index in
    let list = trees_of (map tree_of c.loop-spec.list.items) in
    let lt : i < length c.loop-spec.specs = omega (arith, c.loop-spec.auto.specs) in
    let made = c.in_ok-add_copies.ensures in
    let done = c.in_ok-complete.ensures in
    (search rules, step_trees in_group list_after i list (trees_of (map tree_of c.complete.new.list.items)) c.loop-spec.specs c.complete.new.spec c.spec-item.result lt (done.spec ∙ ap (completed list) made) (done.list ∙ ap (list_behind list) made) ∙ c.loop-spec.invariant.1)

pub add_to_specs-returns : goal.add_to_specs-returns
add_to_specs-returns t c =
    let le : length c.loop-spec.specs ≤ c.loop-spec.spec-index = omega (arith, c.loop-spec.auto.specs, c.loop-spec-test.false) in
    sym (all_trees in_group list_after c.loop-spec.spec-index (trees_of (map tree_of c.loop-spec.list.items)) c.loop-spec.specs le) ∙ c.loop-spec.invariant.1 ∙ specs-walk no_trees c.args.specs.now
