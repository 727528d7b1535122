use Rattle.std.proofs.Common.{Option, [], sym, ap, ◌∙◌, subst}
use Rattle.std.specs.Prelude.{unwrap_or}
use Rattle.std.specs.Option.{option_map}
use Rattle.std.proofs.lemmas.Result.{IfOk-weaker}
use Rattle.go_num.specs.declared.value.Value.{Value}
use Rattle.go_term.specs.Types.{list, of_list}
use Rattle.go_term.specs.declared.term.Term.{Term}
use Rattle.go_ops.specs.Limited.{FitsSort, limited_outcome}
use Rattle.go_ops.specs.Signed.{fit_of_one, value_of_one}
use Rattle.go_ops.proofs.sign.sign_defined.Goals as goal

pub signed-given-requires-clause-fits : goal.signed-given-requires-clause-fits
signed-given-requires-clause-fits g c = subst (λ (o : Option Value). FitsSort o c.args.sort) (sym (c.constant_in.ensures (g.J.Ask.tree c.args.judge.now))) c.requires.fits

pub returns-clause-outcome : goal.returns-clause-outcome
returns-clause-outcome g c =
    let tree = g.J.Ask.tree c.args.judge.now in
    let type = ap (λ (t : Option Term). unwrap_or (option_map tree t) (of_list list [])) c.in-Some.is in
    let v = c.constant_in.ensures tree in
    IfOk-weaker c.limited.result _ _
    (λ outcome is.
    is _ _ c.signed-given.ensures
    ∙ (λ i. limited_outcome (sym type i) c.args.a.now.span (fit_of_one c.args.op c.args.sort (v i)) (value_of_one c.args.op c.args.sort (v i))))
    c.limited.ensures.outcome
