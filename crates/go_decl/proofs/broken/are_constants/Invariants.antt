use Rattle.std.proofs.Common.{◌≡◌, drop, map}
use Rattle.std.specs.List.{list_all}
use Rattle.go_tree.specs.Tree.{tree_of}
use Rattle.go_expr.specs.Read.{outcome_read}
use Rattle.go_judge.specs.Operands.{is_constant}
use Rattle.go_values.specs.Rules.{has_record}
use Rattle.go_decl.proofs.broken.are_constants.Given as goal

-- all are constants exactly where all that are left are
abbrev pub invariant-loop-value : goal.invariant-loop-value
invariant-loop-value g l =
    list_all (has_record (outcome_read (g.W.Ask.outcomes l.walks)) is_constant) (map tree_of (drop l.value-index l.values))
    ≡ list_all (has_record (outcome_read (g.W.Ask.outcomes l.walks)) is_constant) (map tree_of l.values)
