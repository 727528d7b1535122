use Rattle.std.proofs.Common.{sym, ap, ◌∙◌}
use Rattle.std.specs.Option.{option_copied}
use Rattle.go_module.specs.Names.Rules.BlockRules.{is_repeated}
use Rattle.go_scope.proofs.HeldLemmas.{none_repeated}
use Rattle.go_scope.proofs.held.Declared.is_repeated.Goals as goal

pub returns-in-None : goal.returns-in-None
returns-in-None c =
    let name = c.args.name.now in
    let none = sym (c.self.invariant name) ∙ sym c.get.ensures.value ∙ ap option_copied c.in-None.is in
    sym (none_repeated c.self.inside.regions.now name none) ∙ ap (λ regions. is_repeated regions name) c.self.view_is
