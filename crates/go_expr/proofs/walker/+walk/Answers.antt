use Rattle.std.proofs.Common.{◌≡◌, ◌-◌, ◌∷◌, [], Bor, List, drop, length, map, reverse, refl, sym, ap, ◌∙◌, subst, suc, arith}
use Rattle.std.specs.List.{AllByRecursion, flat_map}
use Rattle.std.proofs.Math.Seq.{drop-cons}
use Rattle.std.proofs.lemmas.List.{length-map, reverse-reverse}
use Rattle.std.proofs.lemmas.Result.{IfOk-weaker, on_err_weaker}
use Rattle.go_tree.specs.declared.node.Node.{Node}
use Rattle.go_tree.specs.Tree.{tree_of}
use Rattle.go_operands.specs.Operands.{operands_of, expressions_in}
use Rattle.go_judge.specs.declared.outcome.Outcome.{Outcome}
use Rattle.go_judge.specs.Headers.{Headers}
use Rattle.go_judge.specs.Judged.{judged}
use Rattle.go_model.specs.Outcomes.Walk.{construct, outcome}
use Rattle.go_judge.specs.View.{outcome_as}
use Rattle.go_judge.specs.Types.Own.{IsOwnOutcome}
use Rattle.go_judge.specs.Naming.{AreThere}
use Rattle.go_constructs.specs.Operators.Honest.{AreHonest, GivesHonest}
use Rattle.go_judge.proofs.OwnLemmas.{keeps_then}
use Rattle.go_model.proofs.WalkedLemmas.{partly_walked}
use Rattle.go_operands.proofs.OperandLemmas.{operand_part_smaller}
use Rattle.go_names.specs.Views.{trees_at}
use Rattle.go_expr.specs.Walker.{outcomes_as}
use Rattle.go_expr.proofs.OwnOutcomesLemmas.{all-append, all-reverse, list_agrees, list_stays_own}
use Rattle.go_expr.proofs.HonestLemmas.{outcomes-honest}
use Rattle.go_expr.proofs.ResultLemmas.{on_err, on_ok}
use Rattle.go_expr.proofs.StepLemmas.{walked_outcome}
use Rattle.go_expr.proofs.WalkerLemmas.{broken_off, map-reverse, node_done, outcomes_more, part_within, partly_next, parts_done, walked_more}
use Rattle.go_expr.proofs.walker.+walk.Goals as goal

pub walk-requires : goal.walk-requires
walk-requires g t c = λ κs lives.
    let operands = c.in_ok-operands.operands.items in
    let smaller = operand_part_smaller operands operands (tree_of c.args.node.now) (c.loop-place.place - 1) c.index.result.now refl c.in_ok-operands.ensures (omega (arith, c.in_ok-operands.operands.ok.0)) c.index.ensures in
    let inv = c.loop-place.invariant in
    (omega (arith, smaller, c.decreases), (lives, (subst AreThere (sym inv.keeps.named) c.requires.there, (subst AreHonest (sym inv.keeps.same) c.requires.honest, inv.owned))))

pub loop-place-preserved : goal.loop-place-preserved
loop-place-preserved g t c =
    let naming = (g.J.Ask.names c.args.judge.now) in
    let headers = g.J.Ask.headers c.args.judge.now in
    let inv = c.loop-place.invariant in
    let did = c.in_ok-walk.ensures in
    let kept = c.walk.ensures.keeps.kept in
    let before = c.loop-place.judge in
    let now = c.walk.new.judge in
    let tree = g.J.Ask.tree now in
    let own = g.J.Ask.is_type now in
    let done = c.loop-place.outcomes.items in
    let operands = c.in_ok-operands.operands.items in
    let i = c.loop-place.place - 1 in
    let part = c.index.result.now in
    let next : suc i ≡ c.loop-place.place = omega arith in
    let at : part ∷ drop c.loop-place.place operands ≡ drop i operands =
    sym (drop-cons operands i part (omega (arith, c.in_ok-operands.operands.ok.0)) ∙ (λ j. sym c.index.ensures j ∷ drop (next j) operands)) in
    record {
      keeps = keeps_then inv.keeps c.walk.ensures.keeps;
      found = outcomes_more naming headers tree (tree_of part.now) (trees_at (drop c.loop-place.place operands)) (trees_at (drop i operands)) done c.push.new.self.items c.in_ok-walk.field-0
          (ap trees_at at) (list_agrees (g.J.Ask.is_type before) own (g.J.Ask.tree before) tree kept done inv.own ∙ inv.found)
          (did.outcome ∙ (λ j. outcome (inv.keeps.named j) (inv.keeps.same j) (tree_of part.now))) c.in_ok-push.ensures.items;
      own = subst (AllByRecursion (IsOwnOutcome own)) (sym c.in_ok-push.ensures.items)
          (all-append (IsOwnOutcome own) done (c.in_ok-walk.field-0 ∷ []) (list_stays_own (g.J.Ask.is_type before) own (g.J.Ask.tree before) tree kept done inv.own) (did.own, tt));
      reached = walked_more naming (g.J.Ask.names before) headers (g.J.Ask.headers before) (expressions_in (tree_of part.now)) (flat_map expressions_in (trees_at (drop c.loop-place.place operands))) (flat_map expressions_in (trees_at (drop i operands)))
          (outcomes_as (g.J.Ask.tree c.args.judge.now) c.args.walker.now) (outcomes_as (g.J.Ask.tree before) c.loop-place.walker) (outcomes_as tree c.walk.new.walker) inv.keeps.named inv.keeps.same
          (ap (λ (ps : List (Bor Node)). flat_map expressions_in (trees_at ps)) at) inv.reached did.reached;
      owned = c.walk.ensures.owned;
    }

pub step_and_keep-requires-clause-parts : goal.step_and_keep-requires-clause-parts
step_and_keep-requires-clause-parts g t c =
    let own = IsOwnOutcome (g.J.Ask.is_type c.loop-place.judge) in
    subst (AllByRecursion own) (sym (c.deref.ensures.value ∙ c.reverse.ensures.items)) (all-reverse own c.loop-place.outcomes.items c.loop-place.invariant.own)

pub step_and_keep-requires-clause-honest : goal.step_and_keep-requires-clause-honest
step_and_keep-requires-clause-honest g t c =
    let naming = (g.J.Ask.names c.args.judge.now) in
    let headers = g.J.Ask.headers c.args.judge.now in
    let view = outcome_as (g.J.Ask.tree c.loop-place.judge) in
    let inv = c.loop-place.invariant in
    let node = tree_of c.args.node.now in
    let first : c.loop-place.place ≡ 0 = omega arith in
    let parts : map view c.deref.result.now ≡ map (outcome naming headers) (operands_of node) =
    ap (map view) (c.deref.ensures.value ∙ c.reverse.ensures.items)
    ∙ map-reverse view c.loop-place.outcomes.items
    ∙ ap reverse (inv.found ∙ ap (λ n. reverse (map (outcome naming headers) (trees_at (drop n c.in_ok-operands.operands.items)))) first)
    ∙ reverse-reverse (map (outcome naming headers) (trees_at c.in_ok-operands.operands.items))
    ∙ ap (map (outcome naming headers)) c.in_ok-operands.ensures in
    subst (λ (known : Headers). AllByRecursion (GivesHonest known) (map view c.deref.result.now)) (sym inv.keeps.same)
    (subst (AllByRecursion (GivesHonest headers)) (sym parts) (outcomes-honest naming headers c.requires.honest (operands_of node)))

pub step_and_keep-requires-clause-many : goal.step_and_keep-requires-clause-many
step_and_keep-requires-clause-many g t c =
    let naming = (g.J.Ask.names c.args.judge.now) in
    let headers = g.J.Ask.headers c.args.judge.now in
    let view = outcome_as (g.J.Ask.tree c.loop-place.judge) in
    let inv = c.loop-place.invariant in
    let node = tree_of c.args.node.now in
    let first : c.loop-place.place ≡ 0 = omega arith in
    let parts : map view c.deref.result.now ≡ map (outcome naming headers) (operands_of node) =
    ap (map view) (c.deref.ensures.value ∙ c.reverse.ensures.items)
    ∙ map-reverse view c.loop-place.outcomes.items
    ∙ ap reverse (inv.found ∙ ap (λ n. reverse (map (outcome naming headers) (trees_at (drop n c.in_ok-operands.operands.items)))) first)
    ∙ reverse-reverse (map (outcome naming headers) (trees_at c.in_ok-operands.operands.items))
    ∙ ap (map (outcome naming headers)) c.in_ok-operands.ensures in
    sym (length-map c.deref.result.now view) ∙ ap length parts ∙ length-map (operands_of node) (outcome naming headers)

pub returns-clause-outcome : goal.returns-clause-outcome
returns-clause-outcome g t c =
    let naming = (g.J.Ask.names c.args.judge.now) in
    let headers = g.J.Ask.headers c.args.judge.now in
    let view = outcome_as (g.J.Ask.tree c.loop-place.judge) in
    let inv = c.loop-place.invariant in
    let node = tree_of c.args.node.now in
    let first : c.loop-place.place ≡ 0 = omega arith in
    let parts : map view c.deref.result.now ≡ map (outcome naming headers) (operands_of node) =
    ap (map view) (c.deref.ensures.value ∙ c.reverse.ensures.items)
    ∙ map-reverse view c.loop-place.outcomes.items
    ∙ ap reverse (inv.found ∙ ap (λ n. reverse (map (outcome naming headers) (trees_at (drop n c.in_ok-operands.operands.items)))) first)
    ∙ reverse-reverse (map (outcome naming headers) (trees_at c.in_ok-operands.operands.items))
    ∙ ap (map (outcome naming headers)) c.in_ok-operands.ensures in
    let inner = g.J.Ask.names c.loop-place.judge in
    let more = g.J.Ask.headers c.loop-place.judge in
    let last = outcome_as (g.J.Ask.tree c.step_and_keep.new.judge) in
    IfOk-weaker c.step_and_keep.result
    (λ (found : Outcome). last found ≡ judged more (construct inner node) (map view c.deref.result.now))
    (λ (found : Outcome). last found ≡ outcome naming headers node)
    (λ found is. walked_outcome naming inner headers more inv.keeps.named inv.keeps.same node (map view c.deref.result.now) parts (last found) is)
    c.step_and_keep.ensures.outcome

pub returns-clause-reached : goal.returns-clause-reached
returns-clause-reached g t c =
    let naming = (g.J.Ask.names c.args.judge.now) in
    let headers = g.J.Ask.headers c.args.judge.now in
    let node = tree_of c.args.node.now in
    let tree = g.J.Ask.tree c.step_and_keep.new.judge in
    let old = outcomes_as (g.J.Ask.tree c.args.judge.now) c.args.walker.now in
    let inside = outcomes_as (g.J.Ask.tree c.loop-place.judge) c.loop-place.walker in
    let operands = c.in_ok-operands.operands.items in
    let first : c.loop-place.place ≡ 0 = omega arith in
    let parts : trees_at (drop c.loop-place.place operands) ≡ operands_of node = ap (λ n. trees_at (drop n operands)) first ∙ c.in_ok-operands.ensures in
    let so_far = parts_done naming headers (flat_map expressions_in (trees_at (drop c.loop-place.place operands))) (flat_map expressions_in (operands_of node)) old inside (ap (flat_map expressions_in) parts) c.loop-place.invariant.reached in
    on_ok c.step_and_keep.result (λ (found : Outcome). outcome_as tree found ≡ outcome naming headers node) _ _
    (λ found is entered. node_done naming headers node old inside (outcomes_as tree c.step_and_keep.new.walker) (outcome_as tree found) so_far is entered)
    (returns-clause-outcome g t c) c.step_and_keep.ensures.entered

-- where it breaks off: in the walk over a part, and behind it; and behind the walks over all parts

pub returns-in_err-walk-clause-err : goal.returns-in_err-walk-clause-err
returns-in_err-walk-clause-err g t c =
    let inv = c.loop-place.invariant in
    let naming = (g.J.Ask.names c.args.judge.now) in
    let headers = g.J.Ask.headers c.args.judge.now in
    let old = outcomes_as (g.J.Ask.tree c.args.judge.now) c.args.walker.now in
    let inside = outcomes_as (g.J.Ask.tree c.loop-place.judge) c.loop-place.walker in
    let node = tree_of c.args.node.now in
    let operands = c.in_ok-operands.operands.items in
    let so_far = broken_off naming headers node operands c.loop-place.place old inside c.in_ok-operands.ensures inv.reached in
    let i = c.loop-place.place - 1 in
    let part = c.index.result.now in
    let next : suc i ≡ c.loop-place.place = omega arith in
    let at : part ∷ drop c.loop-place.place operands ≡ drop i operands =
    sym (drop-cons operands i part (omega (arith, c.in_ok-operands.operands.ok.0)) ∙ (λ j. sym c.index.ensures j ∷ drop (next j) operands)) in
    let next_walk = partly_next naming (g.J.Ask.names c.loop-place.judge) headers (g.J.Ask.headers c.loop-place.judge) (tree_of part.now) node old inside (outcomes_as (g.J.Ask.tree c.walk.new.judge) c.walk.new.walker)
    inv.keeps.named inv.keeps.same (part_within i operands part (drop c.loop-place.place operands) node c.in_ok-operands.ensures at) so_far in
    on_err c.from_residual-in_err-walk.result _ (next_walk c.in_err-walk.ensures.err)

pub returns-in_err-push-clause-err : goal.returns-in_err-push-clause-err
returns-in_err-push-clause-err g t c =
    let inv = c.loop-place.invariant in
    let naming = (g.J.Ask.names c.args.judge.now) in
    let headers = g.J.Ask.headers c.args.judge.now in
    let old = outcomes_as (g.J.Ask.tree c.args.judge.now) c.args.walker.now in
    let inside = outcomes_as (g.J.Ask.tree c.loop-place.judge) c.loop-place.walker in
    let new = outcomes_as (g.J.Ask.tree c.walk.new.judge) c.walk.new.walker in
    let node = tree_of c.args.node.now in
    let operands = c.in_ok-operands.operands.items in
    let so_far = broken_off naming headers node operands c.loop-place.place old inside c.in_ok-operands.ensures inv.reached in
    let i = c.loop-place.place - 1 in
    let part = c.index.result.now in
    let next : suc i ≡ c.loop-place.place = omega arith in
    let at : part ∷ drop c.loop-place.place operands ≡ drop i operands =
    sym (drop-cons operands i part (omega (arith, c.in_ok-operands.operands.ok.0)) ∙ (λ j. sym c.index.ensures j ∷ drop (next j) operands)) in
    let next_walk = partly_next naming (g.J.Ask.names c.loop-place.judge) headers (g.J.Ask.headers c.loop-place.judge) (tree_of part.now) node old inside new
    inv.keeps.named inv.keeps.same (part_within i operands part (drop c.loop-place.place operands) node c.in_ok-operands.ensures at) so_far in
    on_err c.from_residual-in_err-push.result _
    (next_walk (partly_walked (g.J.Ask.names c.loop-place.judge) (g.J.Ask.headers c.loop-place.judge) (expressions_in (tree_of part.now)) (expressions_in (tree_of part.now)) inside new (λ s h. h) c.in_ok-walk.ensures.reached))

pub returns-clause-err : goal.returns-clause-err
returns-clause-err g t c =
    on_err_weaker c.step_and_keep.result
    (λ same. broken_off (g.J.Ask.names c.args.judge.now) (g.J.Ask.headers c.args.judge.now) (tree_of c.args.node.now) c.in_ok-operands.operands.items c.loop-place.place
    (outcomes_as (g.J.Ask.tree c.args.judge.now) c.args.walker.now) (outcomes_as (g.J.Ask.tree c.step_and_keep.new.judge) c.step_and_keep.new.walker) c.in_ok-operands.ensures (λ n. same n ∙ c.loop-place.invariant.reached n))
    c.step_and_keep.ensures.err
