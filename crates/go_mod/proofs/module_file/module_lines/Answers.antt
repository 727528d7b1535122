use Rattle.go_mod.specs.ModulePath.{module_path}
use Rattle.go_mod.proofs.DeclaredLemmas.{declared_step}
use Rattle.go_mod.proofs.module_file.module_lines.Goals as goal

pub loop-line-preserved : goal.loop-line-preserved
loop-line-preserved c =
    declared_step module_path c.args.lines.now c.loop-line.line-index _ _ _ _ _ c.loop-line-test.true c.module_path.ensures c.in_ok-push_declared.ensures c.loop-line.invariant
