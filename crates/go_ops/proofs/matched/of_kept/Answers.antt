use Rattle.std.proofs.Common.{None, Some, sym, ap, ◌∙◌}
use Rattle.std.proofs.lemmas.Result.{IfOk-weaker}
use Rattle.go_num.specs.declared.value.NumKind.{NumKind}
use Rattle.go_term.specs.Types.{TypeData, basic_type}
use Rattle.go_judge.specs.Records.{rec_as}
use Rattle.go_ops.specs.Limited.{limited_outcome}
use Rattle.go_constructs.specs.Operators.Matching.{common_sort, untyped_basic}
use Rattle.go_constructs.specs.Operators.Operations.{fit_of_both, value_of}
use Rattle.go_ops.proofs.MatchingLemmas.{type-by}
use Rattle.go_ops.proofs.matched.of_kept.Goals as goal

pub returns-in-Some-Some-clause-outcome : goal.returns-in-Some-Some-clause-outcome
returns-in-Some-Some-clause-outcome g c =
    let tree = g.J.Ask.tree c.args.judge.now in
    let x = rec_as tree c.args.x.now in
    let y = rec_as tree c.args.y.now in
    let sort = common_sort c.args.s c.args.t in
    let type = ap (λ (k : NumKind). basic_type (untyped_basic k)) c.later.ensures ∙ type-by x y c.args.s c.args.t (Some c.in-Some-Some.k) (Some c.in-Some-Some.l) (sym c.in-Some-Some.is-0 ∙ c.kind_of-first.ensures) (sym c.in-Some-Some.is-1 ∙ c.kind_of-second.ensures) in
    IfOk-weaker c.of_untyped.result _ _
    (λ outcome is. is _ _ c.requires.given ∙ ap (λ (t : TypeData). limited_outcome t None (fit_of_both c.args.op x y sort) (value_of c.args.op x y sort)) type)
    c.of_untyped.ensures.outcome

pub returns-in-Some-None-clause-outcome : goal.returns-in-Some-None-clause-outcome
returns-in-Some-None-clause-outcome g c =
    let tree = g.J.Ask.tree c.args.judge.now in
    let x = rec_as tree c.args.x.now in
    let y = rec_as tree c.args.y.now in
    let sort = common_sort c.args.s c.args.t in
    let type = type-by x y c.args.s c.args.t (Some c.in-Some-None.field-0-0) None (sym c.in-Some-None.is-0 ∙ c.kind_of-first.ensures) (sym c.in-Some-None.is-1 ∙ c.kind_of-second.ensures) in
    IfOk-weaker c.of_type.result _ _
    (λ outcome is. is _ _ c.requires.given ∙ ap (λ (t : TypeData). limited_outcome t None (fit_of_both c.args.op x y sort) (value_of c.args.op x y sort)) type)
    c.of_type.ensures.outcome

pub returns-in-None-Some-clause-outcome : goal.returns-in-None-Some-clause-outcome
returns-in-None-Some-clause-outcome g c =
    let tree = g.J.Ask.tree c.args.judge.now in
    let x = rec_as tree c.args.x.now in
    let y = rec_as tree c.args.y.now in
    let sort = common_sort c.args.s c.args.t in
    let type = type-by x y c.args.s c.args.t None (Some c.in-None-Some.field-0-1) (sym c.in-None-Some.is-0 ∙ c.kind_of-first.ensures) (sym c.in-None-Some.is-1 ∙ c.kind_of-second.ensures) in
    IfOk-weaker c.of_type-in-None-Some.result _ _
    (λ outcome is. is _ _ c.requires.given ∙ ap (λ (t : TypeData). limited_outcome t None (fit_of_both c.args.op x y sort) (value_of c.args.op x y sort)) type)
    c.of_type-in-None-Some.ensures.outcome

pub returns-in-None-None-clause-outcome : goal.returns-in-None-None-clause-outcome
returns-in-None-None-clause-outcome g c =
    let tree = g.J.Ask.tree c.args.judge.now in
    let x = rec_as tree c.args.x.now in
    let y = rec_as tree c.args.y.now in
    let sort = common_sort c.args.s c.args.t in
    let type = type-by x y c.args.s c.args.t None None (sym c.in-None-None.is-0 ∙ c.kind_of-first.ensures) (sym c.in-None-None.is-1 ∙ c.kind_of-second.ensures) in
    IfOk-weaker c.of_type-in-None-None.result _ _
    (λ outcome is. is _ _ c.requires.given ∙ ap (λ (t : TypeData). limited_outcome t None (fit_of_both c.args.op x y sort) (value_of c.args.op x y sort)) type)
    c.of_type-in-None-None.ensures.outcome
