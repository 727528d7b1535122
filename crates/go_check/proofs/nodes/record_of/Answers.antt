use Rattle.std.proofs.Common.{ap, ◌∙◌}
use Rattle.std.specs.Prelude.{option_and_then}
use Rattle.go_term.specs.View.{type_of}
use Rattle.go_tree.specs.Tree.{id_of, tree_of}
use Rattle.go_model.specs.Outcomes.Readings.{record_in}
use Rattle.go_expr.specs.Walker.{outcomes_view}
use Rattle.go_check.proofs.ExprLemmas.{read_record}
use Rattle.go_check.proofs.nodes.record_of.Goals as goal

pub returns : goal.returns
returns c =
    c.found.ensures type_of
    ∙ ap (λ n. option_and_then record_in (outcomes_view c.args.walker.now n)) c.id.ensures
    ∙ read_record (outcomes_view c.args.walker.now (id_of (tree_of c.args.node.now)))
