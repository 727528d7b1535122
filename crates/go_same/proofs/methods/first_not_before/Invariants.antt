use Rattle.std.proofs.Common.{◌≡◌, true}
use Rattle.std.specs.List.{AllWithin}
use Rattle.go_same.specs.MethodOrder as spec
use Rattle.go_same.proofs.methods.first_not_before.Given as goal

abbrev pub invariant-loop-i : goal.invariant-loop-i
invariant-loop-i l = AllWithin (λ m. spec.stands_before m l.method ≡ true) l.methods l.from l.i
