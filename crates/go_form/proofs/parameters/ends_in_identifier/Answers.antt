use Rattle.std.proofs.Common.{◌≡◌, ◌-◌, ◌≤◌, suc, List, [], ◌∷◌, length, map, get_or, ap, ◌∙◌, arith}
use Rattle.go_tree.specs.declared.node.Node.{Node}
use Rattle.go_tree.specs.Tree.{tree_of}
use Rattle.go_form.specs.Families.Parameters.{is_one_identifier, ends_in_identifier}
use Rattle.go_form.proofs.parameters.ends_in_identifier.Goals as goal

ends_at_last : (ns : List Node) (n : Node) → 1 ≤ length ns → n ≡ get_or ns (length ns - 1) n → is_one_identifier (tree_of n) ≡ ends_in_identifier (map tree_of ns)
ends_at_last [] n le e = absurd (omega arith)
ends_at_last (m ∷ []) n le e = ap (λ (x : Node). is_one_identifier (tree_of x)) e
ends_at_last (m ∷ (k ∷ ns)) n le e =
    let behind : length (m ∷ (k ∷ ns)) - 1 ≡ suc (length (k ∷ ns) - 1) = omega arith in
    ends_at_last (k ∷ ns) n (omega arith) (e ∙ ap (λ j. get_or (m ∷ (k ∷ ns)) j n) behind)

pub returns-in-len1-up : goal.returns-in-len1-up
returns-in-len1-up c = c.is_one_identifier.ensures ∙ ends_at_last c.args.params.now c.last-item.result (omega (arith, c.in-len1-up.len_at_least)) c.last-item.is
