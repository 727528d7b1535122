use Rattle.std.proofs.Common.{◌≡◌, take}
use Rattle.go_judge.proofs.header.copied_methods.Given as goal

abbrev pub invariant-loop-method : goal.invariant-loop-method
invariant-loop-method l = l.all.items ≡ take l.method-index l.methods.items
