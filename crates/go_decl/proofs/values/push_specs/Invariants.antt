use Rattle.std.proofs.Common.{◌≡◌, ◌++◌, drop}
use Rattle.std.specs.List.{flat_map}
use Rattle.go_values.specs.Rules.{broken_spec_by}
use Rattle.go_names.specs.Views.{specs_view}
use Rattle.go_expr.specs.Read.{outcome_read}
use Rattle.go_decl.proofs.values.push_specs.Given as goal

abbrev pub invariant-loop-spec : goal.invariant-loop-spec
invariant-loop-spec g l =
    l.found.items ++ flat_map (broken_spec_by (outcome_read (g.W.Ask.outcomes l.walks))) (specs_view (drop l.spec-index l.specs)) ≡ l.fn.found.items ++ flat_map (broken_spec_by (outcome_read (g.W.Ask.outcomes l.walks))) (specs_view l.specs)
