use Rattle.std.proofs.Common.{◌≡◌, map, not, take}
use Rattle.go_module.specs.Modules.Paths.{has_path}
use Rattle.go_load.proofs.columns.stubs.Given as goal

abbrev pub invariant-loop-path : goal.invariant-loop-path
invariant-loop-path l = l.stubs.items ≡ map (λ path. not (has_path l.own path)) (take l.path-index l.paths)
