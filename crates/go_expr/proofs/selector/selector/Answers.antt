use Rattle.std.proofs.Common.{map, sym, ap, ◌∙◌}
use Rattle.std.proofs.lemmas.Result.{IfOk-weaker}
use Rattle.go_constructs.specs.Name.{name}
use Rattle.go_constructs.specs.Selector as spec
use Rattle.go_judge.specs.Judged.{judged}
use Rattle.go_judge.specs.View.{outcome_as}
use Rattle.go_expr.proofs.selector.selector.Goals as goal

pub returns-in-Other-clause-outcome : goal.returns-in-Other-clause-outcome
returns-in-Other-clause-outcome g c =
    let headers = g.J.Ask.headers c.args.judge.now in
    let xs = map (outcome_as (g.J.Ask.tree c.args.judge.now)) c.args.outcomes.now in
    IfOk-weaker c.of_first.result _ _
    (λ outcome is. is headers ∙ ap (λ m. judged headers (spec.selector m) xs) (sym c.in-Other.is))
    c.of_first.ensures.outcome

pub returns-in-Declared-clause-outcome : goal.returns-in-Declared-clause-outcome
returns-in-Declared-clause-outcome g c =
    let headers = g.J.Ask.headers c.args.judge.now in
    let xs = map (outcome_as (g.J.Ask.tree c.args.judge.now)) c.args.outcomes.now in
    IfOk-weaker c.name.result _ _
    (λ outcome is. is xs ∙ ap (λ m. judged headers (name m) xs) c.in-Declared.is ∙ ap (λ m. judged headers (spec.selector m) xs) (sym c.in-Declared.is))
    c.name.ensures.outcome

pub returns-in-DefinedType-clause-outcome : goal.returns-in-DefinedType-clause-outcome
returns-in-DefinedType-clause-outcome g c =
    let headers = g.J.Ask.headers c.args.judge.now in
    let xs = map (outcome_as (g.J.Ask.tree c.args.judge.now)) c.args.outcomes.now in
    IfOk-weaker c.name-in-DefinedType.result _ _
    (λ outcome is. is xs ∙ ap (λ m. judged headers (name m) xs) c.in-DefinedType.is ∙ ap (λ m. judged headers (spec.selector m) xs) (sym c.in-DefinedType.is))
    c.name-in-DefinedType.ensures.outcome

pub returns-in-BasicType-clause-outcome : goal.returns-in-BasicType-clause-outcome
returns-in-BasicType-clause-outcome g c =
    let headers = g.J.Ask.headers c.args.judge.now in
    let xs = map (outcome_as (g.J.Ask.tree c.args.judge.now)) c.args.outcomes.now in
    IfOk-weaker c.name-in-BasicType.result _ _
    (λ outcome is. is xs ∙ ap (λ m. judged headers (name m) xs) c.in-BasicType.is ∙ ap (λ m. judged headers (spec.selector m) xs) (sym c.in-BasicType.is))
    c.name-in-BasicType.ensures.outcome

pub returns-in-AnyType-clause-outcome : goal.returns-in-AnyType-clause-outcome
returns-in-AnyType-clause-outcome g c =
    let headers = g.J.Ask.headers c.args.judge.now in
    let xs = map (outcome_as (g.J.Ask.tree c.args.judge.now)) c.args.outcomes.now in
    IfOk-weaker c.name-in-AnyType.result _ _
    (λ outcome is. is xs ∙ ap (λ m. judged headers (name m) xs) c.in-AnyType.is ∙ ap (λ m. judged headers (spec.selector m) xs) (sym c.in-AnyType.is))
    c.name-in-AnyType.ensures.outcome

pub returns-in-Truth-clause-outcome : goal.returns-in-Truth-clause-outcome
returns-in-Truth-clause-outcome g c =
    let headers = g.J.Ask.headers c.args.judge.now in
    let xs = map (outcome_as (g.J.Ask.tree c.args.judge.now)) c.args.outcomes.now in
    IfOk-weaker c.name-in-Truth.result _ _
    (λ outcome is. is xs ∙ ap (λ m. judged headers (name m) xs) c.in-Truth.is ∙ ap (λ m. judged headers (spec.selector m) xs) (sym c.in-Truth.is))
    c.name-in-Truth.ensures.outcome

pub returns-in-Iota-clause-outcome : goal.returns-in-Iota-clause-outcome
returns-in-Iota-clause-outcome g c =
    let headers = g.J.Ask.headers c.args.judge.now in
    let xs = map (outcome_as (g.J.Ask.tree c.args.judge.now)) c.args.outcomes.now in
    IfOk-weaker c.name-in-Iota.result _ _
    (λ outcome is. is xs ∙ ap (λ m. judged headers (name m) xs) c.in-Iota.is ∙ ap (λ m. judged headers (spec.selector m) xs) (sym c.in-Iota.is))
    c.name-in-Iota.ensures.outcome

pub returns-in-Predeclared-clause-outcome : goal.returns-in-Predeclared-clause-outcome
returns-in-Predeclared-clause-outcome g c =
    let headers = g.J.Ask.headers c.args.judge.now in
    let xs = map (outcome_as (g.J.Ask.tree c.args.judge.now)) c.args.outcomes.now in
    IfOk-weaker c.name-in-Predeclared.result _ _
    (λ outcome is. is xs ∙ ap (λ m. judged headers (name m) xs) c.in-Predeclared.is ∙ ap (λ m. judged headers (spec.selector m) xs) (sym c.in-Predeclared.is))
    c.name-in-Predeclared.ensures.outcome
