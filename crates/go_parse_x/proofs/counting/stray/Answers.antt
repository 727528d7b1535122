use Rattle.std.proofs.Common.{◌≡◌}
use Rattle.go_parse_x.specs.Answers.{spot_of}
use Rattle.go_parse_x.specs.Machine.Steps.{behind}
use Rattle.go_parse_x.proofs.counting.stray.Goals as goal

pub returns-in-Err-peek-clause-stray : goal.returns-in-Err-peek-clause-stray
returns-in-Err-peek-clause-stray c =
    let to : spot_of c.pass.new.self ≡ behind c.args.token = let at = c.pass.ensures.passed.0 in let last = c.pass.ensures.passed.1 in cc in
    (to, c.in-Ok.ensures.fits, rw c.pass.ensures.others.0 at c.in-Err-peek.ensures.none)
