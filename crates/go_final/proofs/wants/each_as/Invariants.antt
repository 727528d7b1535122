use Rattle.std.proofs.Common.{◌≡◌, ◌++◌, drop}
use Rattle.std.specs.Option.{option_map}
use Rattle.go_report.specs.Finals.Wanted.{each_as}
use Rattle.go_final.specs.Wants.{AreOwnWants, founds_as, wants_as}
use Rattle.go_final.proofs.wants.each_as.Given as goal

-- what is pushed, with what the operands left are wanted as, is what all are wanted as
abbrev pub invariant-loop-operand : goal.invariant-loop-operand
invariant-loop-operand g l = record {
  wants : wants_as (g.J.Ask.tree l.judge) l.wants.items ++ each_as (option_map (g.J.Ask.tree l.judge) l.want) (founds_as (g.J.Ask.tree l.judge) (drop l._operand-index l.operands)) ≡ each_as (option_map (g.J.Ask.tree l.judge) l.want) (founds_as (g.J.Ask.tree l.judge) l.operands);
  own : AreOwnWants (g.J.Ask.is_type l.judge) l.wants.items;
}
