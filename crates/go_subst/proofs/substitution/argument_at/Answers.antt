use Rattle.std.proofs.Common.{◌≡◌, None, slice_get, arith}
use Rattle.std.proofs.lemmas.Grind.{common_steps}
use Rattle.std.proofs.lemmas.Option.{slice_get-map, slice_get_past}
use Rattle.go_subst.proofs.ViewLemmas.{type_of-Param}
use Rattle.go_subst.proofs.substitution.argument_at.Goals as goal

pub returns-in-None : goal.returns-in-None
returns-in-None c =
    let none : slice_get c.args.to.now c.args.place ≡ None = slice_get_past c.args.to.now c.args.place (grind (arith, common_steps)) in
    rw (slice_get-map, none) (type_of-Param c.args.d c.args.i)
