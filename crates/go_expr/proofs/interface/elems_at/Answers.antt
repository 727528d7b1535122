use Rattle.std.proofs.Common.{◌≡◌, ◌+◌, suc, ◌∷◌, ◌++◌, length, map, drop, sym, ap, ◌∙◌, subst, arith}
use Rattle.std.specs.List.{AllByRecursion}
use Rattle.std.proofs.Math.Seq.{drop-cons}
use Rattle.std.proofs.lemmas.List.{length-map}
use Rattle.go_tree.specs.Tree.{tree_of}
use Rattle.go_operands.specs.Operands.{operands_of}
use Rattle.go_term.specs.Shapes.{elem_tree}
use Rattle.go_constructs.specs.Interface.{elems_in}
use Rattle.go_expr.proofs.InterfaceLemmas.{elems-more}
use Rattle.go_expr.proofs.SignatureLemmas.{all-drop}
use Rattle.go_expr.proofs.interface.elems_at.Goals as goal

pub loop-elem-preserved : goal.loop-elem-preserved
loop-elem-preserved g c =
    let tree = g.J.Ask.tree c.args.judge.now in
    let own = g.J.Ask.is_type c.args.judge.now in
    let elems = c.args.elems.now in
    let left = c.loop-elem.left.now in
    let i = c.loop-elem.elem-index in
    let elem = tree_of c.elem-item.result in
    let others = map tree_of (drop (i + 1) elems) in
    let next : suc i ≡ i + 1 = omega arith in
    let at : c.elem-item.result ∷ drop (i + 1) elems ≡ drop i elems =
    sym (drop-cons elems i c.elem-item.result (omega arith) ∙ (λ j. sym c.elem-item.is j ∷ drop (next j) elems)) in
    let many_listed : c.len-many.result ≡ length c.in_ok-operands_of.field-0.items = omega (arith, c.len-many.ensures, c.in_ok-operands_of.field-0.ok.0) in
    let many : c.len-many.result ≡ length (operands_of elem) =
    many_listed ∙ sym (length-map c.in_ok-operands_of.field-0.items (λ node. tree_of node.now)) ∙ ap length c.in_ok-operands_of.ensures in
    record {
      elems = elems-more tree c.args.home.now elem others left c.first_types.result.now c.types_behind-left.result.now c.len-many.result
          (map (elem_tree tree) c.loop-elem.list.items) (map (elem_tree tree) c.push_elem.new.list.items) many c.first_types.ensures c.types_behind-left.ensures c.in_ok-push_elem.ensures.pushed
          ∙ ap (λ ns. map (elem_tree tree) c.loop-elem.list.items ++ elems_in c.args.home.now (map tree_of ns) (map tree left)) at
          ∙ c.loop-elem.invariant.elems;
      own = c.push_elem.ensures.own;
      left = subst (AllByRecursion own) (sym c.types_behind-left.ensures) (all-drop own c.len-many.result left c.loop-elem.invariant.left);
    }
