use Rattle.go_base.specs.Lines.{HasLineStarts}
use Rattle.go_base.proofs.lines.line_starts.Given as goal

abbrev pub invariant-loop-i : goal.invariant-loop-i
invariant-loop-i l = HasLineStarts l.bytes l.i l.starts.items
