use Rattle.std.specs.Option.{option_copied}
use Rattle.std.proofs.lemmas.Result.{err_from_is_err_and}
use Rattle.go_load.proofs.ReadingLemmas.{reads_nothing}
use Rattle.go_load.proofs.reading.read_module.Goals as goal

pub returns-in_err-names-clause-broken : goal.returns-in_err-names-clause-broken
returns-in_err-names-clause-broken g c =
    let p = err_from_is_err_and c.from_residual.result c.from_residual.ensures.1 in
    rw (p.1, p.2) (reads_nothing (g.T.Tree.files c.args.tree.now) c.args.root.now (option_copied c.args.stubs) c.in_err-names.field-0.0 c.in_err-names.ensures.no_rule)
