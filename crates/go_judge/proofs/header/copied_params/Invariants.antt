use Rattle.std.proofs.Common.{◌≡◌, map, take}
use Rattle.go_judge.specs.Records.{param_view}
use Rattle.go_judge.proofs.header.copied_params.Given as goal

abbrev pub invariant-loop-param : goal.invariant-loop-param
invariant-loop-param l = map param_view l.all.items ≡ map param_view (take l.param-index l.params.items)
