use Rattle.std.proofs.Common.{◌∙◌}
use Rattle.go_module.specs.Names.Imports.{known_in}
use Rattle.go_module.specs.Names.Tables.{uses_of}
use Rattle.go_module.proofs.TableLemmas.{node_denotes, node_found}
use Rattle.go_module.proofs.scopes.Scopes.resolve.Goals as goal

pub returns-clause-denotes : goal.returns-clause-denotes
returns-clause-denotes c = λ m k p tables. node_denotes c.args.self.now.uses.entries (uses_of (known_in m) k p) c.args.id c.copied.result tables.uses (c.copied.ensures ∙ c.get.ensures.value)

pub returns-clause-found : goal.returns-clause-found
returns-clause-found c = λ m k p d tables here. node_found c.args.self.now.uses.entries (uses_of (known_in m) k p) c.args.id d c.copied.result tables.uses (c.copied.ensures ∙ c.get.ensures.value) here
