use Rattle.std.proofs.Common.{arith, ◌∙◌, ◌<◌, length}
use Rattle.std.proofs.lemmas.Bool.Decides.{nat_tests}
use Rattle.go_load.proofs.BrokenLemmas.{mixed_files}
use Rattle.go_load.proofs.names_broken.is_mixed.Goals as goal

pub returns : goal.returns
returns c =
    let some : 0 < length c.args.files.now = grind (arith, nat_tests, c.if-is_empty.ensures) in
    c.some_stands_out.ensures ∙ mixed_files c.args.heads.now c.args.files.now c.name_at.result.now some c.name_at.ensures
