use Rattle.std.proofs.Common.{◌≡◌, ◌++◌, drop}
use Rattle.std.specs.List.{flat_map}
use Rattle.go_term.specs.View.{type_of}
use Rattle.go_judge.specs.HeadersView.{headers_view}
use Rattle.go_names.specs.Views.{specs_view}
use Rattle.go_expr.specs.Read.{outcome_read}
use Rattle.go_expr.specs.Walker.{outcomes_view}
use Rattle.go_final.specs.Ends.{finals_as}
use Rattle.go_report.specs.Finals.Nodes.{finals_in_spec}
use Rattle.go_check.specs.Packages.Book.{standing_of}
use Rattle.go_check.proofs.finals.push_specs.Given as goal

-- what is pushed, with the final types in the specs left, are those in all specs; the judge stays as it is
abbrev pub invariant-loop-spec : goal.invariant-loop-spec
invariant-loop-spec l =
    let each = finals_in_spec (headers_view l.fn.judge.headers) (outcome_read (outcomes_view l.walker)) in
    record {
      finals : finals_as type_of l.list.items ++ flat_map each (specs_view (drop l.spec-index l.specs)) ≡ finals_as type_of l.fn.list.items ++ flat_map each (specs_view l.specs);
      headers : headers_view l.judge.headers ≡ headers_view l.fn.judge.headers;
      standing : standing_of l.judge ≡ standing_of l.fn.judge;
    }
