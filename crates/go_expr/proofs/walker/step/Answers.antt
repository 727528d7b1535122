use Rattle.std.proofs.Common.{◌≡◌, List, map, sym, ap, ◌∙◌}
use Rattle.std.proofs.lemmas.Result.{IfOk-weaker}
use Rattle.go_tree.specs.Tree.{id_of, text_of, tree_of}
use Rattle.go_constructs.specs.Channel.{channel}
use Rattle.go_constructs.specs.Literal.{integer_literal, rune_literal, string_literal}
use Rattle.go_constructs.specs.Meaning.{meaning_by}
use Rattle.go_constructs.specs.Parentheses.{parentheses}
use Rattle.go_constructs.specs.Selector.{selector}
use Rattle.go_judge.specs.declared.outcome.Outcome.{Outcome}
use Rattle.go_judge.specs.Headers.{Headers}
use Rattle.go_judge.specs.Judged.{OutcomeData, judged}
use Rattle.go_judge.specs.Records.{RecData}
use Rattle.go_judge.specs.View.{outcome_as}
use Rattle.go_model.specs.Outcomes.Walk.{construct}
use Rattle.go_expr.specs.Outcomes.{direction_by, first_kind}
use Rattle.go_expr.proofs.NodeOutcomeLemmas.{at_chan}
use Rattle.go_expr.proofs.StepLemmas.{at_integer, at_parentheses, at_rune, at_selector, at_string, node_outcome}
use Rattle.go_expr.proofs.walker.step.Goals as goal

pub returns-in-IntLit-clause-outcome : goal.returns-in-IntLit-clause-outcome
returns-in-IntLit-clause-outcome g c =
    let headers = g.J.Ask.headers c.args.judge.now in
    let naming = g.J.Ask.names c.args.judge.now in
    let xs = map (outcome_as (g.J.Ask.tree c.args.judge.now)) c.args.outcomes.now in
    let node = tree_of c.args.node.now in
    let view = outcome_as (g.J.Ask.tree c.integer_literal.new.judge) in
    IfOk-weaker c.integer_literal.result
    (λ (found : Outcome). (known : Headers) (parts : List (OutcomeData RecData)) → view found ≡ judged known (integer_literal c.text.result.now) parts)
    (λ (found : Outcome). view found ≡ judged headers (construct naming node) xs)
    (λ found is. node_outcome naming headers node xs (integer_literal (text_of node)) (at_integer naming node (sym c.in-IntLit.ensures)) (view found) (is headers xs ∙ ap (λ text. judged headers (integer_literal text) xs) c.text.ensures))
    c.integer_literal.ensures.outcome

pub returns-in-RuneLit-clause-outcome : goal.returns-in-RuneLit-clause-outcome
returns-in-RuneLit-clause-outcome g c =
    let headers = g.J.Ask.headers c.args.judge.now in
    let naming = g.J.Ask.names c.args.judge.now in
    let xs = map (outcome_as (g.J.Ask.tree c.args.judge.now)) c.args.outcomes.now in
    let node = tree_of c.args.node.now in
    let view = outcome_as (g.J.Ask.tree c.rune_literal.new.judge) in
    IfOk-weaker c.rune_literal.result
    (λ (found : Outcome). (known : Headers) (parts : List (OutcomeData RecData)) → view found ≡ judged known (rune_literal c.text-in-RuneLit.result.now) parts)
    (λ (found : Outcome). view found ≡ judged headers (construct naming node) xs)
    (λ found is. node_outcome naming headers node xs (rune_literal (text_of node)) (at_rune naming node (sym c.in-RuneLit.ensures)) (view found) (is headers xs ∙ ap (λ text. judged headers (rune_literal text) xs) c.text-in-RuneLit.ensures))
    c.rune_literal.ensures.outcome

pub returns-in-StringLit-clause-outcome : goal.returns-in-StringLit-clause-outcome
returns-in-StringLit-clause-outcome g c =
    let headers = g.J.Ask.headers c.args.judge.now in
    let naming = g.J.Ask.names c.args.judge.now in
    let xs = map (outcome_as (g.J.Ask.tree c.args.judge.now)) c.args.outcomes.now in
    let node = tree_of c.args.node.now in
    let view = outcome_as (g.J.Ask.tree c.string_literal.new.judge) in
    IfOk-weaker c.string_literal.result
    (λ (found : Outcome). (known : Headers) (parts : List (OutcomeData RecData)) → view found ≡ judged known (string_literal c.text-in-StringLit.result.now) parts)
    (λ (found : Outcome). view found ≡ judged headers (construct naming node) xs)
    (λ found is. node_outcome naming headers node xs (string_literal (text_of node)) (at_string naming node (sym c.in-StringLit.ensures)) (view found) (is headers xs ∙ ap (λ text. judged headers (string_literal text) xs) c.text-in-StringLit.ensures))
    c.string_literal.ensures.outcome

pub returns-in-Some-clause-outcome : goal.returns-in-Some-clause-outcome
returns-in-Some-clause-outcome g c =
    let headers = g.J.Ask.headers c.args.judge.now in
    let naming = g.J.Ask.names c.args.judge.now in
    let xs = map (outcome_as (g.J.Ask.tree c.args.judge.now)) c.args.outcomes.now in
    let node = tree_of c.args.node.now in
    let view = outcome_as (g.J.Ask.tree c.selector.new.judge) in
    IfOk-weaker c.selector.result
    (λ (found : Outcome). view found ≡ judged headers (selector c.meaning-meaning-in-Some.result) xs)
    (λ (found : Outcome). view found ≡ judged headers (construct naming node) xs)
    (λ found is. node_outcome naming headers node xs (selector (meaning_by naming (id_of (tree_of c.in-Some.f.now)))) (at_selector naming node (tree_of c.in-Some.field-0-0.now) (tree_of c.in-Some.f.now) (sym c.in-SelectorExpr.ensures) c.in-Some.ensures.some) (view found) (is ∙ ap (λ m. judged headers (selector m) xs) (c.meaning-meaning-in-Some.ensures ∙ ap (meaning_by naming) c.id-in-Some.ensures)))
    c.selector.ensures.outcome

pub returns-in-ParenExpr-clause-outcome : goal.returns-in-ParenExpr-clause-outcome
returns-in-ParenExpr-clause-outcome g c =
    let headers = g.J.Ask.headers c.args.judge.now in
    let naming = g.J.Ask.names c.args.judge.now in
    let xs = map (outcome_as (g.J.Ask.tree c.args.judge.now)) c.args.outcomes.now in
    let node = tree_of c.args.node.now in
    let view = outcome_as (g.J.Ask.tree c.args.judge.now) in
    IfOk-weaker c.parentheses.result
    (λ (found : Outcome). (known : Headers) → view found ≡ judged known parentheses xs)
    (λ (found : Outcome). view found ≡ judged headers (construct naming node) xs)
    (λ found is. node_outcome naming headers node xs (parentheses) (at_parentheses naming node (sym c.in-ParenExpr.ensures)) (view found) (is headers))
    c.parentheses.ensures.outcome

pub returns-in-ChanType-clause-outcome : goal.returns-in-ChanType-clause-outcome
returns-in-ChanType-clause-outcome g c =
    let headers = g.J.Ask.headers c.args.judge.now in
    let naming = g.J.Ask.names c.args.judge.now in
    let xs = map (outcome_as (g.J.Ask.tree c.args.judge.now)) c.args.outcomes.now in
    let node = tree_of c.args.node.now in
    let view = outcome_as (g.J.Ask.tree c.channel_type.new.judge) in
    IfOk-weaker c.channel_type.result
    (λ (found : Outcome). view found ≡ judged headers (channel c.direction_of.result) xs)
    (λ (found : Outcome). view found ≡ judged headers (construct naming node) xs)
    (λ found is. node_outcome naming headers node xs (channel (direction_by (first_kind node))) (at_chan naming node (sym c.in-ChanType.ensures)) (view found) (is ∙ ap (λ dir. judged headers (channel dir) xs) c.direction_of.ensures))
    c.channel_type.ensures.outcome
