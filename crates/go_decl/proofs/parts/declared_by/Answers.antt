use Rattle.std.proofs.Common.{ap, ◌∙◌}
use Rattle.std.proofs.lemmas.List.{append-nil}
use Rattle.go_module.specs.Names.Declarations.{declarations_in, declared_in}
use Rattle.go_values.specs.Declared.{declared_as}
use Rattle.go_names.specs.Views.{declarations_view, spec_view, specs_view}
use Rattle.go_decl.proofs.parts.declared_by.Goals as goal

pub returns : goal.returns
returns c =
    c.numbered.ensures
    ∙ ap (λ ds. declared_as ds c.args.d.0)
    (ap declarations_view c.deref.ensures.value ∙ c.in_ok-declarations.ensures ∙ ap (λ specs. declarations_in (specs_view specs)) c.from_ref.ensures.value ∙ append-nil (declared_in (spec_view c.args.spec.now)))
