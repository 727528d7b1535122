use Rattle.std.proofs.Common.{ap, ◌∙◌}
use Rattle.std.specs.Map.{lookup}
use Rattle.go_module.specs.Scopes.{same_object}
use Rattle.go_judge.proofs.EntryLemmas.{entry_behind}
use Rattle.go_judge.proofs.headers.Headers.add.Goals as goal

pub returns-clause-added : goal.returns-clause-added
returns-clause-added c = λ e.
    ap (lookup (same_object (record { 0 = e }))) c.in_ok-insert.ensures.entries
    ∙ entry_behind c.args.self.now.table.entries c.args.d c.args.header e
