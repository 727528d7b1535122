use Rattle.std.proofs.Common.{pos, ap, ◌∙◌}
use Rattle.std.proofs.lemmas.Result.{IfOk-weaker}
use Rattle.go_term.specs.Types.{basic_type}
use Rattle.go_term.specs.declared.basic.Basic.TheVariants.{UntypedRune}
use Rattle.go_tree.specs.Lexical.LiteralValues.{rune_lit_value}
use Rattle.go_expr.specs.Outcomes.{limited_view}
use Rattle.go_expr.proofs.NodeOutcomeLemmas.{limited_outcome}
use Rattle.go_expr.proofs.literal.rune_literal.Goals as goal

pub returns-clause-outcome : goal.returns-clause-outcome
returns-clause-outcome g c =
    let kind = basic_type UntypedRune in
    IfOk-weaker c.limited_outcome.result _ _
    (λ outcome is headers parts. is ∙ ap (limited_view kind) c.in_ok-value.ensures ∙ limited_outcome headers kind (pos (rune_lit_value c.args.text.now)))
    c.limited_outcome.ensures.outcome
