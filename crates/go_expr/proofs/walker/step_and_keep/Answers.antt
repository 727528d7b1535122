use Rattle.std.proofs.Common.{Some, ap, ◌∙◌}
use Rattle.std.specs.Prelude.{◌==◌, if◌then◌else◌}
use Rattle.std.specs.Option.{option_map}
use Rattle.std.proofs.lemmas.Result.{IfOk-weaker, on_err_weaker}
use Rattle.go_tree.specs.Tree.{id_of, tree_of}
use Rattle.go_judge.specs.View.{outcome_as}
use Rattle.go_expr.proofs.OwnOutcomesLemmas.{outcomes_agree, outcomes_stay_own}
use Rattle.go_expr.proofs.ResultLemmas.{on_err}
use Rattle.go_expr.proofs.walker.step_and_keep.Goals as goal

pub keep-requires-clause-own : goal.keep-requires-clause-own
keep-requires-clause-own g c =
    let old = c.args.judge.now in
    let new = c.step.new.judge in
    outcomes_stay_own (g.J.Ask.is_type old) (g.J.Ask.is_type new) (g.J.Ask.tree old) (g.J.Ask.tree new) c.step.ensures.keeps.kept c.args.walker.now c.requires.own

pub returns-clause-entered : goal.returns-clause-entered
returns-clause-entered g c =
    let old = c.args.judge.now in
    let new = c.step.new.judge in
    let tree = g.J.Ask.tree new in
    let agree = outcomes_agree (g.J.Ask.is_type old) (g.J.Ask.is_type new) (g.J.Ask.tree old) tree c.step.ensures.keeps.kept c.args.walker.now c.requires.own in
    IfOk-weaker c.keep.result _ _
    (λ found entered n. entered n ∙ ap (λ before. if id_of (tree_of c.args.node.now) == n then Some (outcome_as tree found) else before n) agree)
    c.keep.ensures.entered

pub returns-clause-err : goal.returns-clause-err
returns-clause-err g c =
    let old = c.args.judge.now in
    let new = c.step.new.judge in
    let tree = g.J.Ask.tree new in
    let agree = outcomes_agree (g.J.Ask.is_type old) (g.J.Ask.is_type new) (g.J.Ask.tree old) tree c.step.ensures.keeps.kept c.args.walker.now c.requires.own in
    on_err_weaker c.keep.result
    (λ same n. ap (option_map (outcome_as tree)) (same n) ∙ ap (λ before. before n) agree)
    c.keep.ensures.err

pub returns-in_err-made-clause-err : goal.returns-in_err-made-clause-err
returns-in_err-made-clause-err g c =
    let old = c.args.judge.now in
    let new = c.step.new.judge in
    let agree = outcomes_agree (g.J.Ask.is_type old) (g.J.Ask.is_type new) (g.J.Ask.tree old) (g.J.Ask.tree new) c.step.ensures.keeps.kept c.args.walker.now c.requires.own in
    on_err c.from_residual.result _ (λ n. ap (λ before. before n) agree)

pub returns-in_err-made-clause-owned : goal.returns-in_err-made-clause-owned
returns-in_err-made-clause-owned g c =
    let old = c.args.judge.now in
    let new = c.step.new.judge in
    outcomes_stay_own (g.J.Ask.is_type old) (g.J.Ask.is_type new) (g.J.Ask.tree old) (g.J.Ask.tree new) c.step.ensures.keeps.kept c.args.walker.now c.requires.own
