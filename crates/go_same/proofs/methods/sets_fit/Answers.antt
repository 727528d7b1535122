use Rattle.std.proofs.Common.{◌≡◌, ◌&&◌, Bool, true, false, rules, sym, ap, ◌∙◌}
use Rattle.go_same.specs.MethodOrder.{fit_besides, have_names_of}
use Rattle.go_same.proofs.MethodWalkLemmas.{fits_view}
use Rattle.go_same.proofs.methods.sets_fit.Goals as goal

pub returns-then-have_same_names : goal.returns-then-have_same_names
returns-then-have_same_names c tree =
    let names : (have_names_of c.args.a.now.methods.items c.args.b.now.methods.items && have_names_of c.args.b.now.methods.items c.args.a.now.methods.items) ≡ true = search rules in
    c.fit_besides.ensures ∙ sym (ap (λ (b : Bool). b && fit_besides c.args.a.now c.args.b.now) names) ∙ fits_view tree c.args.a.now c.args.b.now

pub returns-else-have_same_names : goal.returns-else-have_same_names
returns-else-have_same_names c tree =
    let names : (have_names_of c.args.a.now.methods.items c.args.b.now.methods.items && have_names_of c.args.b.now.methods.items c.args.a.now.methods.items) ≡ false = search rules in
    c.if-have_same_names.false ∙ sym (ap (λ (b : Bool). b && fit_besides c.args.a.now c.args.b.now) names) ∙ fits_view tree c.args.a.now c.args.b.now
