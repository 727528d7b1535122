use Rattle.std.proofs.Common.{◌≤◌, ◌-◌, false}
use Rattle.go_tree.specs.Lexical.Scan.{Gap}
use Rattle.go_form.specs.BuildConstraints.{GetsBuildConstraints}
use Rattle.go_form.proofs.build_constraints.build_constraints.Given as goal

abbrev pub invariant-loop-at : goal.invariant-loop-at
invariant-loop-at l = record {
  within : l.at ≤ l.clause;
  reached : Gap false l.bytes 0 l.at;
  gets : GetsBuildConstraints l.bytes l.at l.fn.found.items l.found.items;
}

abbrev pub decreases-loop-at : goal.decreases-loop-at
decreases-loop-at l = l.clause - l.at
