use Rattle.std.proofs.Common.{◌∙◌}
use Rattle.go_module.specs.Names.Iotas.{iotas_of}
use Rattle.go_module.proofs.TableLemmas.{node_denotes, node_found}
use Rattle.go_module.proofs.scopes.Scopes.iota_of.Goals as goal

pub returns-clause-numbered : goal.returns-clause-numbered
returns-clause-numbered c = λ m k p tables. node_denotes c.args.self.now.iotas.entries (iotas_of p) c.args.id c.copied.result tables.iotas (c.copied.ensures ∙ c.get.ensures.value)

pub returns-clause-found : goal.returns-clause-found
returns-clause-found c = λ m k p n tables here. node_found c.args.self.now.iotas.entries (iotas_of p) c.args.id n c.copied.result tables.iotas (c.copied.ensures ∙ c.get.ensures.value) here
