use Rattle.go_subst.proofs.PathLemmas.{new_to_path, path_behind}
use Rattle.go_subst.proofs.path.Path.add.Goals as goal

pub returns-clause-fresh : goal.returns-clause-fresh
returns-clause-fresh c = new_to_path c.args.origin c.args.self.now.met.entries c.in_ok-insert.field-0 c.is_none.result c.is_none.ensures c.in_ok-insert.ensures.old

pub returns-clause-added : goal.returns-clause-added
returns-clause-added c = path_behind c.args.origin tt c.args.self.now.met.entries c.insert.new.self.entries c.in_ok-insert.field-0 c.is_none.result c.is_none.ensures c.in_ok-insert.ensures.old c.in_ok-insert.ensures.entries
