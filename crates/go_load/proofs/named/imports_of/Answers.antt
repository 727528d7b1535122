use Rattle.std.proofs.Common.{get_or, arith}
use Rattle.go_load.proofs.NamedLemmas.{file_more}
use Rattle.go_load.proofs.PathSetLemmas.{at-any}
use Rattle.go_load.proofs.named.imports_of.Goals as goal

pub loop-file-preserved : goal.loop-file-preserved
loop-file-preserved c =
    let files = c.args.files.now in
    let i = c.loop-file.file-index in
    let file = get_or files i 0 in
    file_more c.args.places.now c.args.stubs.now c.args.from_stub c.args.heads.now files i file c.loop-file.list c.add_file_imports.new.list (omega arith) (at-any files i 0 file (omega arith)) c.loop-file.invariant c.in_ok-add_file_imports.ensures
