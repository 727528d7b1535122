use Rattle.go_module.specs.Names.Imports.{known_in}
use Rattle.go_module.specs.Names.Tables.{objects_in}
use Rattle.go_module.proofs.TableLemmas.{object_declared}
use Rattle.go_module.proofs.scopes.Scopes.object.Goals as goal

pub returns-clause-declared : goal.returns-clause-declared
returns-clause-declared c = λ m k p tables. object_declared c.args.self.now.objects.entries (objects_in (known_in m) k p) c.args.d c.index.result.now tables.objects c.index.ensures
