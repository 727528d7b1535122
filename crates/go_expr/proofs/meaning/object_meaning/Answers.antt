use Rattle.std.proofs.Common.{ap, sym, ◌∙◌}
use Rattle.std.specs.Prelude.{if◌then◌else◌}
use Rattle.std.specs.Option.{option_map_or}
use Rattle.std.proofs.lemmas.Bool.{lt-ltb}
use Rattle.go_module.specs.Modules.Module.{first_number}
use Rattle.go_constructs.specs.Meaning.{kind_meaning, predeclared_meaning}
use Rattle.go_constructs.specs.declared.meaning.Meaning.TheVariants.{Other}
use Rattle.go_expr.proofs.meaning.object_meaning.Goals as goal

pub returns-then-d-lt-FIRST_NUMBER : goal.returns-then-d-lt-FIRST_NUMBER
returns-then-d-lt-FIRST_NUMBER g c =
    let names = g.F.Ask.names c.args.forms.now in
    let d = c.args.d in
    let meant = predeclared_meaning (names.iota c.args.id.0) d in
    c.predeclared_meaning.ensures
    ∙ ap (λ n. predeclared_meaning n d) c.iota_of.ensures
    ∙ ap (λ b. if b then meant else option_map_or (λ object. kind_meaning d object.kind) (names.objects d.0) Other) (sym (lt-ltb d.0 first_number c.if-d-lt-FIRST_NUMBER.true))
