use Rattle.std.proofs.Common.{◌≡◌, ◌++◌, drop, map}
use Rattle.go_names.specs.Views.{all_specs, specs_view}
use Rattle.go_obligations.specs.Owed.{AreOwnObligations, owed_by_specs, owed_view}
use Rattle.go_obligations.specs.Read.{outcome_read}
use Rattle.go_obligations.proofs.spec.owed_by.Given as goal

-- what is pushed, with what is demanded in the lists left, is what is demanded in all lists
abbrev pub invariant-loop-specs : goal.invariant-loop-specs
invariant-loop-specs g l =
    let read = outcome_read (g.W.Ask.outcomes l.walks) in
    record {
      own : AreOwnObligations (g.W.Ask.is_type l.walks) l.owed.items;
      owed : owed_view (g.W.Ask.tree l.walks) l.owed.items ++ owed_by_specs read (all_specs (map (λ list. specs_view list.items) (drop l.specs-index l.lists))) ≡ owed_by_specs read (all_specs (map (λ list. specs_view list.items) l.lists));
    }
