use Rattle.std.proofs.Common.{Option, ap, arith, sym}
use Rattle.std.proofs.lemmas.Option.{slice_get_past}
use Rattle.std.specs.Prelude.{unwrap_or}
use Rattle.go_constructs.specs.Meaning.{predeclared_meanings}
use Rattle.go_constructs.specs.declared.meaning.Meaning.{Meaning}
use Rattle.go_constructs.specs.declared.meaning.Meaning.TheVariants.{Predeclared}
use Rattle.go_expr.proofs.MeaningLemmas.{item-get}
use Rattle.go_expr.proofs.meaning.predeclared_meaning.Goals as goal

pub returns-in-Some : goal.returns-in-Some
returns-in-Some c =
    let d = c.args.d in
    let found = c.in-Some.ensures.lookup.3 in
    ap (λ (o : Option Meaning). unwrap_or o Predeclared) (item-get (predeclared_meanings c.args.iota d) d.0 c.in-Some.meaning.now found.0 found.1)

pub returns-in-None : goal.returns-in-None
returns-in-None c =
    let d = c.args.d in
    ap (λ (o : Option Meaning). unwrap_or o Predeclared) (sym (slice_get_past (predeclared_meanings c.args.iota d) d.0 (omega (arith, c.in-None.ensures.lookup))))
