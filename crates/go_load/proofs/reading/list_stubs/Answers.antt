use Rattle.std.proofs.Common.{ℕ, List, subst}
use Rattle.go_load.specs.Texts.ReadTexts.{AreGoFilesOf}
use Rattle.go_load.proofs.ReadingLemmas.{stub_files}
use Rattle.go_load.proofs.reading.list_stubs.Goals as goal

pub returns-in_ok-go_files-in-Some-clause-files : goal.returns-in_ok-go_files-in-Some-clause-files
returns-in_ok-go_files-in-Some-clause-files g c =
    let paths = c.in_ok-go_files-in-Some.field-0.items in
    let files = subst (λ (names : List (List ℕ)). AreGoFilesOf names paths) c.deref.ensures.value c.in_ok-go_files-in-Some.ensures in
    stub_files (g.T.Tree.files c.args.tree.now) c.args.stubs c.in-Some.root _ paths c.in-Some.is c.in_ok-names-in-Some.ensures.names files
