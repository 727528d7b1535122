use Rattle.std.proofs.Common.{◌≡◌, ◌++◌, ◌-◌, List, map, drop, take, length, ap, sym, ◌∙◌, arith}
use Rattle.std.proofs.lemmas.List.{length-map}
use Rattle.go_tree.specs.declared.node.Node.{Node}
use Rattle.go_tree.specs.declared.node.Node.TheViews.{out-Node}
use Rattle.go_tree.specs.Tree.{Tree, branch, tree_of, trees_of, list_of}
use Rattle.go_text.specs.Copies.{completed, list_behind, copy_if_any}
use Rattle.go_parse_s.proofs.CopyLemmas.{rolled, opened, completed_alone, behind_alone, behind_own_parts}
use Rattle.go_parse_s.proofs.copies.complete.Goals as goal

pub returns-in_ok-push_copy-in-len1-clause-spec : goal.returns-in_ok-push_copy-in-len1-clause-spec
returns-in_ok-push_copy-in-len1-clause-spec c =
    let n = out-Node c.args.spec.now in
    let list = trees_of (map tree_of c.args.list.now.items) in
    let put : List Tree → Tree = λ xs. branch n.id.0 n.start n.end n.kind n.text (trees_of xs) in
    let lone : length (map tree_of n.parts.items) ≡ 1 = let l = length-map n.parts.items tree_of in let v = ap (λ (xs : List Node). length xs) c.as_slice.ensures.value in omega (arith, l, v, c.in-len1.len_at_least, c.in-len1.len_below) in
    rolled _ ∙ ap put c.in_ok-push_copy-in-len1.ensures ∙ ap (λ (xs : List Node). put (map tree_of n.parts.items ++ list_of (copy_if_any (trees_of (map tree_of xs))))) c.deref.ensures.value ∙ completed_alone n.id.0 n.start n.end n.kind n.text (map tree_of n.parts.items) list lone ∙ ap (completed list) (sym (opened c.args.spec.now))

pub returns-in_ok-push_copy-in-len1-clause-list : goal.returns-in_ok-push_copy-in-len1-clause-list
returns-in_ok-push_copy-in-len1-clause-list c =
    let n = out-Node c.args.spec.now in
    let list = trees_of (map tree_of c.args.list.now.items) in
    let lone : length (map tree_of n.parts.items) ≡ 1 = let l = length-map n.parts.items tree_of in let v = ap (λ (xs : List Node). length xs) c.as_slice.ensures.value in omega (arith, l, v, c.in-len1.len_at_least, c.in-len1.len_below) in
    behind_alone n.id.0 n.start n.end n.kind n.text (map tree_of n.parts.items) list lone ∙ ap (list_behind list) (sym (opened c.args.spec.now))

pub returns-in_ok-list-in-len1-up-clause-list : goal.returns-in_ok-list-in-len1-up-clause-list
returns-in_ok-list-in-len1-up-clause-list c =
    let n = out-Node c.args.spec.now in
    let list = trees_of (map tree_of c.args.list.now.items) in
    let v = ap (λ (xs : List Node). length xs) c.as_slice.ensures.value in
    ap trees_of c.in_ok-list-in-len1-up.ensures ∙ ap (λ (xs : List Node). trees_of (map tree_of (take (length xs - 1) (drop 1 xs)))) c.as_slice.ensures.value ∙ behind_own_parts n.id.0 n.start n.end n.kind n.text n.parts.items list (omega (arith, v, c.in-len1-up.len_at_least)) ∙ ap (list_behind list) (sym (opened c.args.spec.now))
