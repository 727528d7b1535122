use Rattle.std.proofs.Common.{ap, find, ◌∙◌}
use Rattle.std.specs.Prelude.{slice_get}
use Rattle.std.specs.Option.{option_and_then}
use Rattle.go_module.specs.Scopes.{same_object}
use Rattle.go_report.specs.declared.lines.NamedObject.{NamedObject}
use Rattle.go_records.proofs.names.Names.get.Goals as goal

pub returns-in-Some : goal.returns-in-Some
returns-in-Some c =
    c.object_at.ensures
    ∙ (ap (option_and_then (slice_get c.self.inside.objects.now)) c.in-Some.ensures.value
    ∙ (c.self.invariant c.args.object
    ∙ ap (find (λ (n : NamedObject). same_object c.args.object n.object)) c.self.view_is))

pub returns-in-None : goal.returns-in-None
returns-in-None c =
    ap (option_and_then (slice_get c.self.inside.objects.now)) c.in-None.ensures.value
    ∙ (c.self.invariant c.args.object
    ∙ ap (find (λ (n : NamedObject). same_object c.args.object n.object)) c.self.view_is)
