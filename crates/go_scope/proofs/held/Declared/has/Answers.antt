use Rattle.std.proofs.Common.{ap, is_some, ◌∙◌}
use Rattle.std.specs.List.{list_any}
use Rattle.go_module.specs.Names.Regions.{has_name}
use Rattle.go_scope.proofs.HeldLemmas.{held_any}
use Rattle.go_scope.proofs.held.Declared.has.Goals as goal

pub returns : goal.returns
returns c = c.contains_key.ensures ∙ ap is_some (c.self.invariant c.args.name.now) ∙ held_any c.self.inside.regions.now c.args.name.now ∙ ap (list_any (has_name c.args.name.now)) c.self.view_is
