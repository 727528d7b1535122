use Rattle.go_load.proofs.ReadingLemmas.{told_bad}
use Rattle.go_load.proofs.module_text.path_of.Goals as goal

pub returns-in_ok-told-in-Broken-clause-broken : goal.returns-in_ok-told-in-Broken-clause-broken
returns-in_ok-told-in-Broken-clause-broken c =
    told_bad c.args.bytes c.as_slice.result.now c.deref.result.now c.in_ok-path.field-0 c.in-Broken.list c.in_ok-told-in-Broken.field-0 c.as_slice.ensures c.in-Broken.is c.in_ok-path.ensures c.deref.ensures.value c.in_ok-told-in-Broken.ensures
