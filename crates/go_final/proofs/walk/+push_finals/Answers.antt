use Rattle.std.proofs.Common.{◌≡◌, ◌+◌, ◌<◌, ◌++◌, Option, List, drop, length, vec_len, refl, sym, ap, ◌∙◌, subst, arith}
use Rattle.std.specs.Prelude.{IfSome}
use Rattle.std.specs.Option.{option_map}
use Rattle.std.proofs.lemmas.List.{drop_all, length-map}
use Rattle.go_tree.specs.Tree.{tree_of}
use Rattle.go_names.specs.Views.{trees_at}
use Rattle.go_term.specs.declared.term.Term.{Term}
use Rattle.go_operands.specs.Operands.{operands_of}
use Rattle.go_operands.proofs.OperandLemmas.{operand_part_smaller}
use Rattle.go_judge.proofs.OwnLemmas.{keeps_then}
use Rattle.go_expr.specs.Read.{outcome_read}
use Rattle.go_expr.specs.Walker.{outcomes_as}
use Rattle.go_expr.proofs.OwnOutcomesLemmas.{outcomes_agree, outcomes_stay_own}
use Rattle.go_report.specs.Finals.Nodes.{finals_by}
use Rattle.go_term.specs.Types.{TypeData}
use Rattle.go_final.specs.Ends.{EndsData, each_by, ends_as, ends_by, finals_as}
use Rattle.go_final.specs.Wants.{AreOwnWants, wants_as}
use Rattle.go_final.proofs.EndLemmas.{all_done, begun, gone_on}
use Rattle.go_final.proofs.WantLemmas.{all-drop, drop-at, ends-long, finals-agree, wants-agree, wants-stay}
use Rattle.go_final.proofs.walk.+push_finals.Goals as goal

pub loop-place-init : goal.loop-place-init
loop-place-init g t c =
    let before = c.args.judge.now in
    let inside = c.ends_of.new.judge in
    let tree = g.J.Ask.tree before in
    let view = g.J.Ask.tree inside in
    let headers = g.J.Ask.headers before in
    let outcome = outcome_read (outcomes_as tree c.args.walker.now) in
    let node = tree_of c.args.node.now in
    let want = option_map tree c.args.want.now in
    let kept = c.ends_of.ensures.keeps.kept in
    let list = c.args.list.now.items in
    let found = c.in_ok-own.field-0 in
    let wants = c.in_ok-own.field-0.wants.items in
    let operands = c.in_ok-operands.operands.items in
    let seen : trees_at c.deref.result.now ≡ operands_of node = ap trees_at c.deref.ensures.value ∙ c.in_ok-operands.ensures in
    let ends : ends_as view found ≡ ends_by headers outcome want node (operands_of node) = c.in_ok-own.ensures.ends ∙ ap (ends_by headers outcome want node) seen in
    record {
      keeps = c.ends_of.ensures.keeps;
      finals = begun headers outcome want node (option_map view found.own) (wants_as view wants) (trees_at operands) (finals_as tree list) (finals_as view list) (finals_as view c.push_own.new.list.items)
          ends c.in_ok-operands.ensures (finals-agree (g.J.Ask.is_type before) (g.J.Ask.is_type inside) tree view kept list c.requires.listed) c.in_ok-push_own.ensures.finals;
      own = c.in_ok-push_own.ensures.own;
      wants = c.in_ok-own.ensures.own.1;
      long = sym (length-map wants (option_map view)) ∙ ap (λ (e : EndsData). length e.wants) ends ∙ ends-long headers outcome want node (operands_of node) ∙ ap length (sym c.in_ok-operands.ensures) ∙ length-map operands (λ operand. tree_of operand.now);
    }

pub push_finals-requires : goal.push_finals-requires
push_finals-requires g t c = λ κs lives.
    let inv = c.loop-place.invariant in
    let place = c.loop-place.place in
    let operands = c.in_ok-operands.operands.items in
    let wants = c.in_ok-own.field-0.wants.items in
    let want = c.index-in-loop-place.result.now in
    let before = c.args.judge.now in
    let now = c.loop-place.judge in
    let own = g.J.Ask.is_type now in
    let end : c.len-place-end.result ≡ vec_len c.in_ok-operands.operands = c.len-place-end.ensures in
    let before_end : place < c.len-place-end.result = c.loop-place-test.true in
    let long : length wants ≡ length operands = inv.long in
    let within : place < length operands = omega (arith, end, before_end, c.in_ok-operands.operands.ok.0) in
    let smaller = operand_part_smaller operands operands (tree_of c.args.node.now) place c.index.result.now refl c.in_ok-operands.ensures within c.index.ensures in
    let here = drop-at wants place want (omega (arith, within, long)) c.index-in-loop-place.ensures in
    let are = subst (AreOwnWants own) here (all-drop (λ (w : Option Term). IfSome w own) place wants inv.wants) in
    (omega (arith, smaller, c.decreases), (lives, (are.0, (outcomes_stay_own (g.J.Ask.is_type before) own (g.J.Ask.tree before) (g.J.Ask.tree now) inv.keeps.kept c.args.walker.now c.requires.walked, inv.own))))

pub loop-place-preserved : goal.loop-place-preserved
loop-place-preserved g t c =
    let inv = c.loop-place.invariant in
    let place = c.loop-place.place in
    let operands = c.in_ok-operands.operands.items in
    let wants = c.in_ok-own.field-0.wants.items in
    let want = c.index-in-loop-place.result.now in
    let operand = c.index.result.now in
    let before = c.args.judge.now in
    let now = c.loop-place.judge in
    let after = c.push_finals.new.judge in
    let tree = g.J.Ask.tree before in
    let view = g.J.Ask.tree now in
    let last = g.J.Ask.tree after in
    let own = g.J.Ask.is_type now in
    let headers = g.J.Ask.headers before in
    let walker = c.args.walker.now in
    let outcome = outcome_read (outcomes_as tree walker) in
    let kept = c.push_finals.ensures.keeps.kept in
    let end : c.len-place-end.result ≡ vec_len c.in_ok-operands.operands = c.len-place-end.ensures in
    let before_end : place < c.len-place-end.result = c.loop-place-test.true in
    let long : length wants ≡ length operands = inv.long in
    let within : place < length operands = omega (arith, end, before_end, c.in_ok-operands.operands.ok.0) in
    let at = drop-at operands place operand within c.index.ensures in
    let here = drop-at wants place want (omega (arith, within, long)) c.index-in-loop-place.ensures in
    let are = subst (AreOwnWants own) here (all-drop (λ (w : Option Term). IfSome w own) place wants inv.wants) in
    let left = drop (place + 1) wants in
    let others = trees_at (drop (place + 1) operands) in
    let rest = wants-agree own (g.J.Ask.is_type after) view last kept left are.1 in
    let read = outcomes_agree (g.J.Ask.is_type before) own tree view inv.keeps.kept walker c.requires.walked in
    let old = finals_as view c.loop-place.list.items in
    let new = finals_as last c.push_finals.new.list.items in
    let whole = finals_as tree c.args.list.now.items ++ finals_by headers outcome (option_map tree c.args.want.now) (tree_of c.args.node.now) in
    let found = c.in_ok-push_finals.ensures.finals ∙ (λ i. old ++ finals_by (inv.keeps.same i) (outcome_read (read i)) (option_map view want) (tree_of operand.now)) in
    let more = gone_on headers outcome (option_map view want) (wants_as view (drop place wants)) (wants_as view left) (tree_of operand.now) (trees_at (drop place operands)) others old new whole
    (ap (wants_as view) here) (ap trees_at at) inv.finals found in
    record {
      keeps = keeps_then inv.keeps c.push_finals.ensures.keeps;
      finals = subst (λ (ws : List (Option TypeData)). new ++ each_by headers outcome ws others ≡ whole) (sym rest) more;
      own = c.in_ok-push_finals.ensures.own;
      wants = wants-stay own (g.J.Ask.is_type after) view last kept wants inv.wants;
      long = inv.long;
    }

pub returns-clause-finals : goal.returns-clause-finals
returns-clause-finals g t c =
    let operands = c.in_ok-operands.operands.items in
    let place = c.loop-place.place in
    let before = c.args.judge.now in
    let view = g.J.Ask.tree c.loop-place.judge in
    let tree = g.J.Ask.tree before in
    let headers = g.J.Ask.headers before in
    let outcome = outcome_read (outcomes_as tree c.args.walker.now) in
    all_done headers outcome (wants_as view (drop place c.in_ok-own.field-0.wants.items)) (trees_at (drop place operands)) (finals_as view c.loop-place.list.items)
    (finals_as tree c.args.list.now.items ++ finals_by headers outcome (option_map tree c.args.want.now) (tree_of c.args.node.now))
    (ap trees_at (drop_all place operands (omega (arith, c.in_ok-operands.operands.ok.0)))) c.loop-place.invariant.finals
