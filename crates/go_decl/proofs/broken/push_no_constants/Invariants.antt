use Rattle.std.proofs.Common.{◌≡◌, ◌++◌, drop, map}
use Rattle.go_tree.specs.Tree.{tree_of}
use Rattle.go_expr.specs.Read.{outcome_read}
use Rattle.go_names.specs.Views.{spec_view}
use Rattle.go_judge.specs.Kinds.{no_value}
use Rattle.go_judge.specs.Operands.{is_constant}
use Rattle.go_values.specs.Rules.{others_by}
use Rattle.go_decl.proofs.broken.push_no_constants.Given as goal

-- what is pushed, with what those left break, is what all of them break
abbrev pub invariant-loop-value : goal.invariant-loop-value
invariant-loop-value g l =
    let breaks = others_by (outcome_read (g.W.Ask.outcomes l.walks)) no_value is_constant (spec_view l.spec) in
    l.found.items ++ breaks (map tree_of (drop l.value-index l.values)) ≡ l.fn.found.items ++ breaks (map tree_of l.values)
