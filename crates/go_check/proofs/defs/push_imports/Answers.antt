use Rattle.std.proofs.Common.{◌≤◌, min, length, map, arith}
use Rattle.go_report.specs.Report.{line_view}
use Rattle.go_check.specs.Lines.Found.{own_file_view}
use Rattle.go_check.specs.View.{outline_view}
use Rattle.go_check.proofs.FoundLemmas.{imports_done}
use Rattle.go_check.proofs.defs.push_imports.Goals as goal

pub returns : goal.returns
returns c =
    let behind : min (length c.args.specs.now) (length c.args.packages.now) ≤ c.loop-i.i = omega arith in
    imports_done (outline_view c.args.outline.now) (own_file_view c.args.file.now) c.args.specs.now c.args.packages.now c.loop-i.i (map line_view c.loop-i.lines.items) _ behind c.loop-i.invariant
