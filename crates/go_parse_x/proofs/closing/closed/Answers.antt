use Rattle.std.proofs.Common.{ap}
use Rattle.std.proofs.lemmas.List.{reverse-reverse}
use Rattle.go_tree.specs.Tree.{branch}
use Rattle.go_tree.specs.Grammar.Trees.Reading.{text_between}
use Rattle.go_parse_x.proofs.OpenedLemmas.{tree_of-roll, all_unnumbered-map}
use Rattle.go_parse_x.proofs.closing.closed.Goals as goal

pub returns-clause-tree : goal.returns-clause-tree
returns-clause-tree c =
    let text = text_between c.args.bytes.now c.args.kind c.args.inner.start c.args.end in
    simp (tree_of-roll, reverse-reverse, c.shrink_to_fit.ensures.items, c.in_ok-text.ensures)
    (ap (λ parts. branch 0 c.args.inner.start c.args.end c.args.kind text parts) (all_unnumbered-map c.args.inner.parts.items))
