use Rattle.std.proofs.Common.{Some, ap, ◌∙◌}
use Rattle.std.specs.Prelude.{◌==◌, if◌then◌else◌}
use Rattle.std.specs.Map.{lookup}
use Rattle.go_module.specs.Scopes.{same_node}
use Rattle.go_tree.specs.Tree.{tree_of}
use Rattle.go_judge.specs.View.{outcome_as}
use Rattle.go_judge.proofs.EntryLemmas.{entry_behind_node}
use Rattle.go_judge.proofs.OwnDataLemmas.{outcome_copied}
use Rattle.go_expr.specs.Walker.{outcomes_as}
use Rattle.go_expr.proofs.OwnOutcomesLemmas.{outcomes_entered, own_entered}
use Rattle.go_expr.proofs.WalkerLemmas.{told_at}
use Rattle.go_expr.proofs.walker.keep.Goals as goal

pub returns-clause-entered : goal.returns-clause-entered
returns-clause-entered g c = λ n.
    let judge = c.args.judge.now in
    let tree = g.J.Ask.tree judge in
    let old = c.args.walker.now in
    let copy = c.in_ok-clone.field-0 in
    let before = outcomes_as tree old n in
    let copied = outcome_copied (g.J.Ask.is_type judge) tree (g.met.J.Ask.copies judge) c.args.made copy c.in_ok-clone.ensures.cases c.requires.made in
    outcomes_entered old (record { table = c.insert.new.self }) c.id.result.0 copy
    (λ m. ap (lookup (same_node (record { 0 = m }))) c.in_ok-insert.ensures.entries ∙ entry_behind_node old.table.entries c.id.result copy m)
    tree n
    ∙ ap (λ o. if c.id.result.0 == n then Some o else before) copied.1
    ∙ told_at (tree_of c.args.node.now) (outcome_as tree c.args.made) before c.id.result.0 n c.id.ensures

pub returns-clause-owned : goal.returns-clause-owned
returns-clause-owned g c =
    let judge = c.args.judge.now in
    let own = g.J.Ask.is_type judge in
    let old = c.args.walker.now in
    let copy = c.in_ok-clone.field-0 in
    let copied = outcome_copied own (g.J.Ask.tree judge) (g.met.J.Ask.copies judge) c.args.made copy c.in_ok-clone.ensures.cases c.requires.made in
    own_entered old (record { table = c.insert.new.self }) c.id.result.0 copy
    (λ m. ap (lookup (same_node (record { 0 = m }))) c.in_ok-insert.ensures.entries ∙ entry_behind_node old.table.entries c.id.result copy m)
    own copied.0 c.requires.own
