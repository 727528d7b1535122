use Rattle.std.proofs.Common.{refl}
use mathlib.Core.Bool.{xor}
use Rattle.go_ops.proofs.comparison.differ.Goals as goal

pub returns : goal.returns
unfolding xor
returns c = refl
