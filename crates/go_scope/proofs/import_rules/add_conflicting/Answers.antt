use Rattle.std.proofs.Common.{arith, get_or, ap, ◌∙◌, ◌++◌}
use Rattle.go_module.specs.Broken.{broken_at, told_if}
use Rattle.go_module.specs.declared.block.Import.{Import}
use Rattle.go_module.specs.Names.Rules.ImportRules as rule
use Rattle.go_scope.proofs.ListLemmas.{flat_step_at}
use Rattle.go_scope.proofs.import_rules.add_conflicting.Goals as goal

pub loop-import-preserved : goal.loop-import-preserved
loop-import-preserved c =
    let none : Import = record { id = record { 0 = 0 }; file = 0; at = 0 } in
    let i = get_or c.args.imports.now c.loop-import.import-index none in
    let marked = ap (λ b. c.loop-import.found.items ++ told_if b (broken_at i.file i.at rule.conflicting_import)) (c.in_ok-conflicts.ensures i.id) in
    flat_step_at (rule.conflicting_at c.args.block.now c.args.file.now) c.args.imports.now c.loop-import.import-index none c.args.found.now.items c.loop-import.found.items c.add_conflict.new.found.items (omega arith) c.loop-import.invariant (c.in_ok-add_conflict.ensures ∙ marked)
