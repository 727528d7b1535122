use Rattle.std.proofs.Common.{◌≡◌, ◌≤◌, refl, ap, sym, subst, ◌∙◌}
use Rattle.go_tree.specs.Tree.{tree_of}
use Rattle.go_text.specs.CopyCount.{copied_nodes, most_copied_nodes}
use Rattle.go_text.specs.Copies.{with_copies}
use Rattle.go_text.specs.Numbers.{numbered}
use Rattle.go_parse_s.proofs.CountLemmas.{copied_nodes-numbered}
use Rattle.go_parse_s.proofs.NumberLemmas.{numbered_anew}
use Rattle.go_parse_s.proofs.file.finished.Goals as goal

pub returns-clause-tree : goal.returns-clause-tree
returns-clause-tree c = c.in_ok-number_nodes.ensures.tree ∙ ap (numbered c.args.first.0) c.in_ok-add_copies.ensures ∙ numbered_anew c.args.first.0 (tree_of c.args.read)

pub returns-clause-bounded : goal.returns-clause-bounded
returns-clause-bounded c =
    let made = c.in_ok-number_nodes.ensures.tree in
    let nodes : copied_nodes (tree_of c.number_nodes.new.node) ≡ copied_nodes (with_copies (tree_of c.args.read)) = ap copied_nodes made ∙ copied_nodes-numbered c.args.first.0 _ ∙ ap copied_nodes c.in_ok-add_copies.ensures in
    subst (λ n. n ≤ most_copied_nodes) (sym nodes) (c.if-not-copies_fit.ensures.0 refl)
