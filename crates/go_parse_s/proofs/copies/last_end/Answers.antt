use Rattle.std.proofs.Common.{List, map, ap, sym, ◌∙◌, arith}
use Rattle.std.proofs.lemmas.List.{drop_all}
use Rattle.go_tree.specs.declared.node.Node.{Node}
use Rattle.go_tree.specs.Tree.{tree_of, trees_of}
use Rattle.go_parse_s.proofs.CopyLemmas.{last_end_is, end_behind}
use Rattle.go_parse_s.proofs.copies.last_end.Goals as goal

pub returns : goal.returns
returns c =
    let none = drop_all c.loop-other.other-index c.args.others.now (omega (arith, c.loop-other-test.false)) in
    ap (λ (xs : List Node). end_behind c.loop-other.end (trees_of (map tree_of xs))) (sym none) ∙ c.loop-other.invariant ∙ sym (last_end_is (tree_of c.args.first.now) (trees_of (map tree_of c.args.others.now)))
