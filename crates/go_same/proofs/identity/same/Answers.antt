use Rattle.std.proofs.Common.{◌++◌, map, false, refl, sym, ap, subst, ◌∙◌}
use Rattle.std.specs.List.{AllByRecursion}
use Rattle.std.proofs.lemmas.Result.{IfOk-weaker}
use Rattle.go_judge.specs.Types.TypeIdentity.{interfaces_in}
use Rattle.go_judge.specs.Types.TypeSets.{plain}
use Rattle.go_same.specs.Kept.{IsKept}
use Rattle.go_same.specs.Layers.{pair_view}
use Rattle.go_same.proofs.SameLemmas.{levels_whole, opened_whole, outermost, types_apart, types_within}
use Rattle.go_same.proofs.identity.same.Goals as goal

pub returns-then-not-branch-clause-answer : goal.returns-then-not-branch-clause-answer
returns-then-not-branch-clause-answer g c =
    let tree = g.J.Ask.tree c.args.judge.now in
    types_apart (g.J.Ask.headers c.args.judge.now) (plain (tree c.args.a.now)) (plain (tree c.args.b.now)) outermost 8480 levels_whole (sym c.if-not-branch.true ∙ c.in_ok-outline.ensures.fits)

pub returns-clause-answer : goal.returns-clause-answer
returns-clause-answer g c =
    let keeps = c.outline.ensures.keeps in
    let tree = g.J.Ask.tree c.args.judge.now in
    let x = plain (tree c.args.a.now) in
    let y = plain (tree c.args.b.now) in
    let fits = c.if-not-branch.false in
    let pairs = c.in_ok-outline.ensures.pairs fits ∙ ap (λ ps. map (pair_view tree) ps ++ interfaces_in x y) c.new-pairs.ensures.items in
    IfOk-weaker c.same_pairs.result _ _ (λ r h. h ∙ types_within (g.J.Ask.headers c.args.judge.now) x y outermost 8480 levels_whole 32 false opened_whole refl (sym fits ∙ c.in_ok-outline.ensures.fits) _ pairs (g.J.Ask.headers c.outline.new.judge) keeps.same) c.same_pairs.ensures.answer

pub same_pairs-requires-clause-kept : goal.same_pairs-requires-clause-kept
same_pairs-requires-clause-kept g c =
    subst (AllByRecursion (IsKept (g.J.Ask.headers c.outline.new.judge) (g.J.Ask.is_type c.outline.new.judge) (g.J.Ask.tree c.outline.new.judge))) (sym c.new-work.ensures.kept) tt

pub returns-clause-unspent : goal.returns-clause-unspent
returns-clause-unspent g c = IfOk-weaker c.same_pairs.result _ _ (λ r h. c.in_ok-outline.ensures.unspent) c.same_pairs.ensures.answer
