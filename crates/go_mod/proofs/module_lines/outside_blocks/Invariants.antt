use Rattle.std.proofs.Common.{◌≡◌, ◌++◌, ◌≤◌, ◌-◌, ◌+◌, length, map, false}
use Rattle.go_mod.specs.ModuleLines.{lines_of, outside_blocks}
use Rattle.go_mod.specs.Seen.{seen}
use Rattle.go_mod.proofs.ModuleLineLemmas.{lines_from}
use Rattle.go_mod.proofs.module_lines.outside_blocks.Given as goal

-- the lines so far and those from the offset on are those of the whole
abbrev pub invariant-loop-offset : goal.invariant-loop-offset
invariant-loop-offset l = record {
  within : l.offset ≤ length l.bytes + 1;
  all : map seen l.lines.items ++ outside_blocks l.in_block (lines_from l.bytes l.offset) ≡ outside_blocks false (lines_of l.bytes);
}

abbrev pub decreases-loop-offset : goal.decreases-loop-offset
decreases-loop-offset l = length l.bytes + 1 - l.offset
