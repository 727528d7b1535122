use Rattle.std.proofs.Common.{Option, [], sym, ap, ◌∙◌, subst}
use Rattle.std.specs.Prelude.{unwrap_or}
use Rattle.std.specs.Option.{option_map}
use Rattle.std.proofs.lemmas.Result.{IfOk-weaker}
use Rattle.go_term.specs.Types.{list, of_list}
use Rattle.go_term.specs.declared.term.Term.{Term}
use Rattle.go_ops.specs.Limited.{limited_outcome}
use Rattle.go_ops.specs.Shifted.{IsUint, fit_of_both, value_of_both}
use Rattle.go_ops.proofs.shift.shift_by_count.Goals as goal

pub shifted-given-requires-clause-count : goal.shifted-given-requires-clause-count
shifted-given-requires-clause-count g c = subst IsUint (sym (c.constant_in-in-Some.ensures (g.J.Ask.tree c.args.judge.now))) c.requires.count

pub returns-clause-outcome : goal.returns-clause-outcome
returns-clause-outcome g c =
    let tree = g.J.Ask.tree c.args.judge.now in
    let type = ap (λ (t : Option Term). unwrap_or (option_map tree t) (of_list list [])) c.in-Some.is in
    let span = c.span_of.ensures tree in
    let v = c.constant_in.ensures tree in
    let w = c.constant_in-in-Some.ensures tree in
    IfOk-weaker c.limited.result _ _
    (λ outcome is.
    is _ _ c.shifted-given.ensures
    ∙ (λ i. limited_outcome (sym type i) (span i) (fit_of_both c.args.left c.args.sort (v i) (w i)) (value_of_both c.args.left (v i) (w i))))
    c.limited.ensures.outcome
