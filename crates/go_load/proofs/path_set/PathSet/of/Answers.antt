use Rattle.std.proofs.Common.{arith, ap, ◌∙◌, []}
use Rattle.std.specs.Prelude.{fold}
use Rattle.std.proofs.lemmas.List.{take_all}
use Rattle.go_module.specs.Modules.Paths.{has_path}
use Rattle.go_load.specs.Packages.PathSets.{with_path}
use Rattle.go_load.proofs.PathSetLemmas.{set_more, at-any, has-set, sorted_set}
use Rattle.go_load.proofs.path_set.PathSet.of.Goals as goal

pub loop-path-preserved : goal.loop-path-preserved
loop-path-preserved c =
    let is = c.as_bytes.ensures ∙ c.path-item.is ∙ at-any c.args.paths.now c.loop-path.path-index c.path-item.result c.as_bytes.result.now (omega arith) in
    set_more c.args.paths.now c.loop-path.path-index c.as_bytes.result.now c.loop-path.set c.add.new.self (omega arith) is c.loop-path.invariant c.in_ok-add.ensures.paths

pub returns-clause-has : goal.returns-clause-has
returns-clause-has c = λ path.
    let whole = take_all c.loop-path.path-index c.args.paths.now (omega arith) in
    ap (λ set. has_path set path) (c.loop-path.invariant ∙ ap (fold with_path []) whole) ∙ has-set c.args.paths.now path

pub returns-clause-ascending : goal.returns-clause-ascending
returns-clause-ascending c = λ sorted.
    let whole = take_all c.loop-path.path-index c.args.paths.now (omega arith) in
    c.loop-path.invariant ∙ ap (fold with_path []) whole ∙ sorted_set c.args.paths.now sorted
