use Rattle.std.proofs.Common.{List, ◌++◌, map, sym, ap, ◌∙◌}
use Rattle.std.specs.List.{flat_map}
use Rattle.std.proofs.lemmas.List.{append-nil, drop_all}
use Rattle.go_tree.specs.declared.node.Node.{Node}
use Rattle.go_tree.specs.Tree.{tree_of}
use Rattle.go_names.specs.Views.{trees_at}
use Rattle.go_obligations.proofs.ComponentLemmas.{methods_by_elem, of_elem}
use Rattle.go_obligations.proofs.components.types_of_methods.Goals as goal

pub returns : goal.returns
returns c =
    let parts = c.part_list-elem-items.result.now in
    let list = trees_at c.loop-elem.list.items in
    sym (append-nil list)
    ∙ ap (λ (l : List Node). list ++ flat_map of_elem (map tree_of l)) (sym (drop_all c.loop-elem.elem-index parts c.loop-elem-test.false))
    ∙ c.loop-elem.invariant
    ∙ ap (flat_map of_elem) c.part_list-elem-items.ensures
    ∙ sym (methods_by_elem (tree_of c.args.node.now))
