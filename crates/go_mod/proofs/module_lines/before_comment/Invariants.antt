use Rattle.std.proofs.Common.{◌≡◌, ◌++◌, ◌≤◌, ◌-◌, length, take, drop}
use Rattle.go_mod.specs.ModuleLines.{before_comment}
use Rattle.go_mod.proofs.module_lines.before_comment.Given as goal

abbrev pub invariant-loop-end : goal.invariant-loop-end
invariant-loop-end l = record {
  within : l.end ≤ length l.line;
  front : take l.end l.line ++ before_comment (drop l.end l.line) ≡ before_comment l.line;
}

abbrev pub decreases-loop-end : goal.decreases-loop-end
decreases-loop-end l = length l.line - l.end
