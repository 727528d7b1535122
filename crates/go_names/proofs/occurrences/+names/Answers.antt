use Rattle.std.proofs.Common.{arith, sym, ◌∙◌}
use Rattle.std.proofs.lemmas.Bool.{false≢true}
use Rattle.go_tree.specs.Tree.{tree_of}
use Rattle.go_names.proofs.WalkLemmas.{inner_part_smaller, names_in-inner, names_in-odd_selector}
use Rattle.go_names.proofs.occurrences.+names.Goals as goal

pub add_inner-add_names-requires : goal.add_inner-add_names-requires
add_inner-add_names-requires t c =
    let smaller = inner_part_smaller c.deref-part-items.result.now c.in_ok-parts.parts.items (tree_of c.args.node.now) c.loop-part.part-index c.part-item.result c.deref-part-items.ensures.value c.in_ok-parts.ensures (omega arith) c.part-item.is in
    (omega (arith, smaller, c.decreases), tt)

pub add_names-returns-in-None : goal.add_names-returns-in-None
add_names-returns-in-None t c =
    let selects = sym c.kind.ensures ∙ c.in-SelectorExpr.is in
    rw (names_in-odd_selector c.args.file c.args.told_at (tree_of c.args.node.now) selects (λ a b two. absurd (false≢true (c.in-None.ensures.none a b two)))) c.add_inner.ensures

pub add_names-returns-in_default : goal.add_names-returns-in_default
add_names-returns-in_default t c =
    rw (names_in-inner c.args.file c.args.told_at (tree_of c.args.node.now) (λ name. c.in_default.not-Name (c.kind.ensures ∙ name)) (λ selects. c.in_default.not-SelectorExpr (c.kind.ensures ∙ selects))) c.add_inner-in_default.ensures
