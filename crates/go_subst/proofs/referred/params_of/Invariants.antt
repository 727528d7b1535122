use Rattle.std.proofs.Common.{◌≡◌, ◌++◌, map, drop}
use Rattle.go_term.specs.View.{type_of}
use Rattle.go_judge.specs.Records.{param_as}
use Rattle.go_judge.specs.Types.UnderlyingType.{params_from}
use Rattle.go_subst.proofs.referred.params_of.Given as goal

abbrev pub invariant-loop-place : goal.invariant-loop-place
invariant-loop-place l = l.all.items ++ params_from l.d l.place (drop l.place (map (param_as type_of) l.params)) ≡ params_from l.d 0 (map (param_as type_of) l.params)
