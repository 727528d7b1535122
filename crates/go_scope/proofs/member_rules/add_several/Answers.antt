use Rattle.std.proofs.Common.{Bor, ap, ◌∙◌, ◌++◌, arith}
use Rattle.go_tree.specs.declared.node.Node.{Node}
use Rattle.go_tree.specs.Tree.{tree_of}
use Rattle.go_names.specs.Views.{trees_at}
use Rattle.go_scope.proofs.ListLemmas.{left_step}
use Rattle.go_scope.proofs.MemberLemmas.{several_at, several_is}
use Rattle.go_scope.proofs.member_rules.add_several.Goals as goal

pub loop-name-preserved : goal.loop-name-preserved
loop-name-preserved c =
    let spec = c.args.spec.now in
    let names = c.args.names.now in
    let name = c.name-item.result in
    let told = several_is spec.file spec.told_at c.args.rule (trees_at names) c.in_ok-marks.marks.entries c.in_ok-marks.ensures (tree_of name.now) in
    left_step (λ (node : Bor Node). tree_of node.now) (several_at spec.file spec.told_at c.args.rule (trees_at names)) names c.loop-name.name-index name c.loop-name.found.items c.add_if_several.new.found.items _ (omega arith) c.name-item.is c.loop-name.invariant (c.in_ok-add_if_several.ensures ∙ ap (λ broken. c.loop-name.found.items ++ broken) told)
