use Rattle.std.proofs.Common.{arith, get_or, not, ◌&&◌, ◌∙◌, ◌++◌}
use Rattle.go_module.specs.Broken.{broken_at, told_if}
use Rattle.go_module.specs.declared.block.Import.{Import}
use Rattle.go_module.specs.Names.Rules.ImportRules as rule
use Rattle.go_scope.specs.Resolved as spec
use Rattle.go_scope.proofs.ListLemmas.{flat_step_at}
use Rattle.go_scope.proofs.import_rules.add_unused.Goals as goal

pub loop-import-preserved : goal.loop-import-preserved
loop-import-preserved c =
    let none : Import = record { id = record { 0 = 0 }; file = 0; at = 0 } in
    let i = get_or c.args.imports.now c.loop-import.import-index none in
    let repeats = c.in_ok-repeats.ensures i.id in
    let uses = c.in_ok-uses.ensures i.id in
    flat_step_at (spec.unused_by c.args.file.now c.args.resolved.now) c.args.imports.now c.loop-import.import-index none c.args.found.now.items c.loop-import.found.items c.add_unused_import.new.found.items (omega arith) c.loop-import.invariant
    (c.in_ok-add_unused_import.ensures ∙ (λ at. c.loop-import.found.items ++ told_if (not (repeats at) && not (uses at)) (broken_at i.file i.at rule.unused_import)))
