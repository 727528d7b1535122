use Rattle.std.proofs.Common.{◌≡◌, ◌-◌, ℕ, take, length, arith, length-take}
use Rattle.std.specs.List.{after_last}
use Rattle.go_base.specs.Place.{is_newline}
use Rattle.go_base.proofs.PlaceLemmas.{length-after_last}
use Rattle.go_base.proofs.places.place.Goals as goal

pub returns-clause-col : goal.returns-clause-col
returns-clause-col c =
    let before = take c.args.offset c.args.bytes.now in
    let known = c.loop-i.invariant in
    let column : length (after_last is_newline before) ≡ length before - c.loop-i.start =
    length-after_last before c.loop-i.start (omega arith)
    (λ k lo hi. known.runs k lo (omega arith)) known.begins in
    omega (arith, length-take {A = ℕ})
