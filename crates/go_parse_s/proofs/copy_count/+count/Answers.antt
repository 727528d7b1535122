use Rattle.std.proofs.Common.{◌++◌, ◌∷◌, [], true, false, refl, ap, sym, ◌∙◌, subst, arith}
use Rattle.std.proofs.lemmas.List.{drop_all}
use Rattle.go_tree.specs.Tree.{Trees, no_trees, tree_of, parts_of}
use Rattle.go_tree.proofs.TreeLemmas.{part_within}
use Rattle.go_parse_s.specs.declared.copy_count.Counts.{Counts}
use Rattle.go_text.specs.Copies.{with_copies, all_with_copies, specs_with_copies, completed, list_behind, is_group}
use Rattle.go_parse_s.specs.Counted.{AreCountsOfAll}
use Rattle.go_parse_s.proofs.CountLemmas.{node_counts, next_part, next_spec, all_are}
use Rattle.go_parse_s.proofs.copy_count.+count.Goals.{count-then-is_group, count-else-is_group}
use Rattle.go_parse_s.proofs.copy_count.+count.Goals as goal

pub count-returns : goal.count-returns
count-returns t c =
    let tree = tree_of c.args.node.now in
    let group = c.is_group.ensures ∙ ap is_group (c.kind.ensures ∙ sym c.kind-2.ensures) in
    let node = node_counts c.if-is_group.parts c.node_above.result tree c.kind-2.result in
    elim c.if-is_group.branch [
      | count-then-is_group w ↦
          let counted = subst (λ (ts : Trees). AreCountsOfAll w.count_specs-parts.result (specs_with_copies no_trees ts)) w.parts.ensures w.count_specs-parts.ensures in
          node true c.kind-2.ensures (sym w.if-is_group.true ∙ group) (subst (λ (x : Counts). AreCountsOfAll x (specs_with_copies no_trees (parts_of tree))) (sym w.parts-is) counted) c.node_above.ensures
      | count-else-is_group w ↦
          let counted = subst (λ (ts : Trees). AreCountsOfAll w.count_all-parts.result (all_with_copies ts)) w.parts-else-is_group.ensures w.count_all-parts.ensures in
          node false c.kind-2.ensures (sym w.if-is_group.false ∙ group) (subst (λ (x : Counts). AreCountsOfAll x (all_with_copies (parts_of tree))) (sym w.parts-is) counted) c.node_above.ensures
    ]

pub count_all-count-requires : goal.count_all-count-requires
count_all-count-requires t c =
    let within = part_within c.args.parts.now c.loop-part.part-index c.part-item.result (omega arith) c.part-item.is in
    (omega (arith, within, c.decreases), tt)

pub count_all-loop-part-preserved : goal.count_all-loop-part-preserved
count_all-loop-part-preserved t c =
    let so_far = c.loop-part.invariant in
    let part = with_copies (tree_of c.part-item.result) in (
      so_far.0 ++ part ∷ [],
      c.and_one-all.ensures so_far.0 part so_far.1 c.count.ensures,
      next_part so_far.0 c.args.parts.now c.loop-part.part-index c.part-item.result _ c.loop-part-test.true c.part-item.is so_far.2,
    )

pub count_all-returns : goal.count_all-returns
count_all-returns t c =
    let none = drop_all c.loop-part.part-index c.args.parts.now (omega (arith, c.loop-part-test.false)) in
    all_are c.loop-part.all c.loop-part.invariant.0 _ c.loop-part.invariant.1 (rw none at c.loop-part.invariant.2)

pub count_specs-count-own-requires : goal.count_specs-count-own-requires
count_specs-count-own-requires t c =
    let within = part_within c.args.specs.now c.loop-spec.spec-index c.spec-item.result (omega arith) c.spec-item.is in
    (omega (arith, within, c.decreases), tt)

pub count_specs-loop-spec-init : goal.count_specs-loop-spec-init
count_specs-loop-spec-init t c = ([], no_trees, record { nodes = refl; list = refl; copied = refl }, refl, refl)

pub count_specs-loop-spec-preserved : goal.count_specs-loop-spec-preserved
count_specs-loop-spec-preserved t c =
    let so_far = c.loop-spec.invariant in
    let before = so_far.1 in
    let spec = with_copies (tree_of c.spec-item.result) in (
      so_far.0 ++ completed before spec ∷ [],
      list_behind before spec,
      c.and_one-all.ensures so_far.0 (completed before spec) so_far.2 (c.complete.ensures spec before c.count-own.ensures so_far.3),
      c.list_of-list.ensures spec before c.count-own.ensures so_far.3,
      next_spec so_far.0 before c.args.specs.now c.loop-spec.spec-index c.spec-item.result _ c.loop-spec-test.true c.spec-item.is so_far.4,
    )

pub count_specs-returns : goal.count_specs-returns
count_specs-returns t c =
    let none = drop_all c.loop-spec.spec-index c.args.specs.now (omega (arith, c.loop-spec-test.false)) in
    all_are c.loop-spec.all c.loop-spec.invariant.0 _ c.loop-spec.invariant.2 (rw none at c.loop-spec.invariant.4)
