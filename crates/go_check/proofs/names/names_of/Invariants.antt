use Rattle.go_module.specs.Modules.Module.{module_view}
use Rattle.go_check.specs.Packages.Names.{AreNames}
use Rattle.go_check.proofs.names.names_of.Given as goal

-- the packages before are asked
abbrev pub invariant-loop-place : goal.invariant-loop-place
invariant-loop-place l = AreNames (module_view l.module) l.place l.names
