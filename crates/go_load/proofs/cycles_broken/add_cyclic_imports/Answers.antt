use Rattle.std.proofs.Common.{◌≡◌, ◌++◌, length, ap, ◌∙◌, arith}
use Rattle.std.specs.List.{flat_map, range_with_len}
use Rattle.go_graph.specs.Cycles.{marks_of}
use Rattle.go_load.specs.Packages.CyclicImports.{cyclic_if_reached}
use Rattle.go_load.proofs.BrokenLemmas.{packages_more}
use Rattle.go_load.proofs.cycles_broken.add_cyclic_imports.Goals as goal

pub loop-k-preserved : goal.loop-k-preserved
loop-k-preserved c =
    packages_more (cyclic_if_reached c.args.heads.now c.args.packages.now (marks_of c.args.marks.now)) c.loop-k.k c.args.found.now.items c.loop-k.found.items c.add_package.new.found.items c.loop-k.invariant c.in_ok-add_package.ensures

pub returns : goal.returns
returns c =
    let all : c.loop-k.k ≡ length c.args.packages.now.paths = omega (arith, ap length c.paths-k-end.ensures.paths) in
    c.loop-k.invariant ∙ ap (λ n. c.args.found.now.items ++ flat_map (cyclic_if_reached c.args.heads.now c.args.packages.now (marks_of c.args.marks.now)) (range_with_len 0 n)) all
