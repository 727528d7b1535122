use Rattle.std.proofs.Common.{◌≡◌, ◌∙◌, sym, Some, slice_get}
use Rattle.std.proofs.lemmas.Option.{slice_get_within}
use Rattle.go_parse_x.proofs.LeadLemmas.{led_at}
use Rattle.go_parse_x.proofs.LineLemmas.{side_of_step}
use Rattle.go_parse_x.proofs.shape.shape_at.Goals as goal

pub shape_of-requires-in-Some-clause-led : goal.shape_of-requires-in-Some-clause-led
shape_of-requires-in-Some-clause-led c =
    let place = c.args.place.now in
    let found : slice_get place.0 place.1 ≡ Some c.in-Some.step = sym c.in-Some.ensures.step in
    led_at place.0 place.1 c.in-Some.step (slice_get_within place.0 place.1 c.in-Some.step found) c.in-Some.ensures.led found

pub returns-in-Some-clause-side : goal.returns-in-Some-clause-side
returns-in-Some-clause-side c =
    let place = c.args.place.now in
    let found : slice_get place.0 place.1 ≡ Some c.in-Some.step = sym c.in-Some.ensures.step in
    c.shape_of.ensures.side ∙ sym (side_of_step place.0 place.1 c.in-Some.step found)
