use Rattle.std.proofs.Common.{◌≡◌, ◌++◌, drop}
use Rattle.go_names.specs.Views.{specs_view}
use Rattle.go_obligations.specs.Owed.{AreOwnObligations, owed_by_specs, owed_view}
use Rattle.go_obligations.specs.Read.{outcome_read}
use Rattle.go_obligations.proofs.spec.push_specs.Given as goal

-- what is pushed, with what is demanded in the specs left, is what is demanded in all specs
abbrev pub invariant-loop-spec : goal.invariant-loop-spec
invariant-loop-spec g l =
    let read = outcome_read (g.W.Ask.outcomes l.walks) in
    record {
      own : AreOwnObligations (g.W.Ask.is_type l.walks) l.owed.items;
      owed : owed_view (g.W.Ask.tree l.walks) l.owed.items ++ owed_by_specs read (specs_view (drop l.spec-index l.specs)) ≡ owed_view (g.W.Ask.tree l.walks) l.fn.owed.items ++ owed_by_specs read (specs_view l.specs);
    }
