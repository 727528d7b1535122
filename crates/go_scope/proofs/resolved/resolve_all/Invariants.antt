use Rattle.std.proofs.Common.{◌≡◌, map}
use Rattle.go_scope.specs.Resolved.{resolved_in}
use Rattle.go_scope.proofs.resolved.resolve_all.Given as goal

abbrev pub invariant-loop-occurrence : goal.invariant-loop-occurrence
invariant-loop-occurrence l = l.list.items ≡ map (resolved_in l.around.universe l.around.block l.file) l.yielded
