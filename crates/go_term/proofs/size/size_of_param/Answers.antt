use Rattle.std.proofs.Common.{option_and_then, slice_get, unwrap_or, map, ap, sym, ◌∙◌}
use Rattle.go_term.specs.Sizes.{size_of, param_type}
use Rattle.go_term.specs.View.{type_of}
use Rattle.go_term.proofs.SizeLemmas.{sized_at}
use Rattle.go_term.proofs.size.size_of_param.Goals as goal

pub returns-in-Some : goal.returns-in-Some
returns-in-Some c =
    c.size_at.ensures ∙ sized_at c.args.with.now.to.now c.args.with.now.sizes.now c.in-Some.place (param_type c.args.d c.args.i) c.requires
    ∙ ap (λ o. size_of (unwrap_or (option_and_then (slice_get (map type_of c.args.with.now.to.now)) o) (param_type c.args.d c.args.i))) (sym c.in-Some.is ∙ c.place_of.ensures)

pub returns-in-None : goal.returns-in-None
returns-in-None c =
    c.leaf.ensures ∙ ap (λ o. size_of (unwrap_or (option_and_then (slice_get (map type_of c.args.with.now.to.now)) o) (param_type c.args.d c.args.i))) (sym c.in-None.is ∙ c.place_of.ensures)
