use Rattle.std.proofs.Common.{◌++◌, arith}
use Rattle.go_load.specs.Packages.CyclicImports.{with_marks}
use Rattle.go_load.proofs.CyclicLemmas.{marked_more, marked_all}
use Rattle.go_load.proofs.cycles_broken.add_marked.Goals as goal

pub loop-k-preserved : goal.loop-k-preserved
loop-k-preserved c =
    marked_more c.args.list.now c.args.marks.now c.loop-k.k _ c.is_marked.result (c.args.found.now.items ++ with_marks c.args.list.now c.args.marks.now) c.loop-k.found.items c.add_if.new.found.items (omega arith) c.is_marked.ensures c.loop-k.invariant c.in_ok-add_if.ensures

pub returns : goal.returns
returns c =
    marked_all c.args.list.now c.args.marks.now c.loop-k.k (c.args.found.now.items ++ with_marks c.args.list.now c.args.marks.now) c.loop-k.found.items (omega arith) c.loop-k.invariant
