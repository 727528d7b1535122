use Rattle.std.proofs.Common.{map, get_or, refl, sym, ap, subst, ◌∙◌}
use Rattle.std.specs.List.{AllByRecursion}
use Rattle.go_judge.specs.Types.Own.{AreOwnFunc}
use Rattle.go_judge.specs.Types.TypeIdentity.{fit}
use Rattle.go_judge.specs.Quests.{Decided, Done}
use Rattle.go_judge.specs.declared.outcome.Answer.TheVariants as A
use Rattle.go_same.specs.Layers.{IsOwnPair}
use Rattle.go_same.specs.MethodOrder.{views_at}
use Rattle.go_same.specs.Sets.{method_view}
use Rattle.go_same.proofs.KeepLemmas.{keeps_then}
use Rattle.go_same.proofs.SameMethodLemmas.{first_here, methods_end, methods_step, methods_stop, place, second_here}
use Rattle.go_same.proofs.identity.methods_fit.Goals as goal

pub outline_funcs-requires : goal.outline_funcs-requires
outline_funcs-requires g c =
    let own = g.J.Ask.is_type c.loop-i.judge in
    let kept = c.loop-i.invariant.keeps.kept in
    record {
      f_own = subst (λ m. AreOwnFunc own m.signature) c.index-ms-i.is (first_here c.args.pairs.now c.loop-i.i-index c.loop-i-test.true kept c.args.ms.now c.args.ns.now c.requires.in_range c.index-ms-i.result c.index-ns-k.result c.index-ms-i.is c.index-ns-k.is c.requires.m_own c.requires.n_own);
      g_own = subst (λ m. AreOwnFunc own m.signature) c.index-ns-k.is (second_here c.args.pairs.now c.loop-i.i-index c.loop-i-test.true kept c.args.ms.now c.args.ns.now c.requires.in_range c.index-ms-i.result c.index-ns-k.result c.index-ms-i.is c.index-ns-k.is c.requires.m_own c.requires.n_own);
      pairs_own = subst (AllByRecursion (IsOwnPair own)) (sym c.new-unread.ensures.items) tt;
    }

pub loop-i-preserved : goal.loop-i-preserved
loop-i-preserved g c =
    let inv = c.loop-i.invariant in
    let ms = c.args.ms.now in
    let ns = c.args.ns.now in
    let at = place c.args.pairs.now c.loop-i.i-index c.loop-i-test.true in
    record {
      keeps = keeps_then inv.keeps c.outline_funcs.ensures.keeps;
      left = λ other. methods_step c.args.pairs.now c.loop-i.i-index c.loop-i-test.true inv.keeps.kept ms ns c.requires.in_range (get_or ms at.0 c.index-ms-i.result) (get_or ns at.1 c.index-ns-k.result) (ap (get_or ms at.0) c.index-ms-i.is) (ap (get_or ns at.1) c.index-ns-k.is) c.requires.m_own c.requires.n_own (g.J.Ask.headers c.args.judge.now) (g.J.Ask.headers c.loop-i.judge) inv.keeps.same (λ p. Done (fit p.0.type p.1.type)) other A.Yes _ refl (ap Decided (sym c.if-not-branch.false ∙ c.in_ok-outline_funcs.ensures.fits)) (inv.left other);
    }

pub returns-then-not-branch-clause-fits : goal.returns-then-not-branch-clause-fits
returns-then-not-branch-clause-fits g c other =
    let inv = c.loop-i.invariant in
    let ms = c.args.ms.now in
    let ns = c.args.ns.now in
    let at = place c.args.pairs.now c.loop-i.i-index c.loop-i-test.true in
    sym (methods_stop c.args.pairs.now c.loop-i.i-index c.loop-i-test.true inv.keeps.kept ms ns c.requires.in_range (get_or ms at.0 c.index-ms-i.result) (get_or ns at.1 c.index-ns-k.result) (ap (get_or ms at.0) c.index-ms-i.is) (ap (get_or ns at.1) c.index-ns-k.is) c.requires.m_own c.requires.n_own (g.J.Ask.headers c.args.judge.now) (g.J.Ask.headers c.loop-i.judge) inv.keeps.same (λ p. Done (fit p.0.type p.1.type)) other A.No _ (λ wrong. cc) (ap Decided (sym c.if-not-branch.true ∙ c.in_ok-outline_funcs.ensures.fits)) (inv.left other))

pub returns-clause-fits : goal.returns-clause-fits
returns-clause-fits g c other =
    sym (methods_end (g.J.Ask.headers c.args.judge.now) (λ p. Done (fit p.0.type p.1.type)) (views_at (map (method_view (g.J.Ask.tree c.args.judge.now)) c.args.ms.now) (map (method_view (g.J.Ask.tree c.args.judge.now)) c.args.ns.now) other) c.args.pairs.now c.loop-i.i-index c.loop-i-test.false _ (c.loop-i.invariant.left other))
