use Rattle.std.proofs.Common.{◌≡◌}
use Rattle.go_judge.specs.Judged.{together}
use Rattle.go_expr.specs.Given.{IsOwnGiven, first_outcomes, given_as}
use Rattle.go_expr.proofs.given.first_records.Given as goal

-- those before the place are done
abbrev pub invariant-loop-place : goal.invariant-loop-place
invariant-loop-place g l = record {
  given : given_as (g.J.Ask.tree l.judge) l.given ≡ together (first_outcomes (g.J.Ask.tree l.judge) l.outcomes l.place);
  own : IsOwnGiven (g.J.Ask.is_type l.judge) l.given;
}
