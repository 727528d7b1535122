use Rattle.std.proofs.Common.{◌≡◌, length, arith, subst}
use Rattle.go_obligations.specs.Firsts.{AreFirsts}
use Rattle.go_obligations.proofs.firsts.firsts_of.Goals as goal

pub returns : goal.returns
returns c =
    let all : c.loop-place.place ≡ length c.args.methods.now = omega arith in
    subst (λ n. AreFirsts c.args.methods.now n c.loop-place.firsts.entries) all c.loop-place.invariant
