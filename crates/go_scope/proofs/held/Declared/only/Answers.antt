use Rattle.std.proofs.Common.{sym, ap, ◌∙◌}
use Rattle.std.specs.Option.{option_copied}
use Rattle.go_scope.specs.Held.{only_of}
use Rattle.go_scope.proofs.HeldLemmas.{looked_up, none_only, some_only}
use Rattle.go_scope.proofs.held.Declared.only.Goals as goal

pub returns-else-held : goal.returns-else-held
returns-else-held c =
    let name = c.args.name.now in
    let regions = c.self.inside.regions.now in
    let some = sym (c.self.invariant name) ∙ sym c.get.ensures.value ∙ ap option_copied c.in-Some.is in
    looked_up regions c.in-Some.held.now.first c.get-else-held.result c.get-else-held.ensures.lookup.0 c.get-else-held.ensures.lookup.1
    ∙ some_only regions name c.in-Some.held.now some c.if-held.false
    ∙ ap (λ all. only_of all name) c.self.view_is

pub returns-in-None : goal.returns-in-None
returns-in-None c =
    let name = c.args.name.now in
    let none = sym (c.self.invariant name) ∙ sym c.get.ensures.value ∙ ap option_copied c.in-None.is in
    none_only c.self.inside.regions.now name none ∙ ap (λ all. only_of all name) c.self.view_is
