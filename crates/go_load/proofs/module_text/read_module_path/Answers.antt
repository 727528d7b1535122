use Rattle.std.proofs.lemmas.Result.{err_from_is_err_and}
use Rattle.go_load.proofs.ReadingLemmas.{no_rule_fault}
use Rattle.go_load.proofs.module_text.read_module_path.Goals as goal

pub returns-in_err-read-clause-broken : goal.returns-in_err-read-clause-broken
returns-in_err-read-clause-broken g c =
    let p = err_from_is_err_and c.from_residual.result c.from_residual.ensures.1 in
    rw (p.1, p.2) (no_rule_fault (g.T.Tree.files c.args.tree.now) c.args.root.now c.args.names.now c.in_err-read.field-0.0 c.in_err-read.ensures.no_rule)
