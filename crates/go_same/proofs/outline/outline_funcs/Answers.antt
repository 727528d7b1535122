use Rattle.std.proofs.Common.{◌++◌, map, sym, ap, subst, ◌∙◌, refl}
use Rattle.std.specs.List.{AllByRecursion}
use Rattle.std.proofs.lemmas.Result.{IfOk-weaker}
use Rattle.go_term.specs.declared.shape.Shape.TheVariants as S
use Rattle.go_same.specs.Layers.{lent, pair_view}
use Rattle.go_same.proofs.KeptLemmas.{func_own}
use Rattle.go_same.proofs.OutlineLemmas.{fit_within, fit_other, pairs_within, long_within}
use Rattle.go_same.proofs.outline.outline_funcs.Goals as goal

pub returns-then-not-same_func-clause-fits : goal.returns-then-not-same_func-clause-fits
returns-then-not-same_func-clause-fits g c =
    fit_other (g.J.Ask.tree c.args.judge.now) (S.Func c.args.f.now) (S.Func c.args.g.now) refl (sym c.same_func.ensures ∙ c.if-not-same_func.true)

pub outline_all-requires : goal.outline_all-requires
outline_all-requires g c =
    let own = g.J.Ask.is_type c.args.judge.now in
    let first = ap lent c.deref.ensures.value ∙ c.in_ok-ts.ensures in
    let second = ap lent c.deref-2.ensures.value ∙ c.in_ok-us.ensures in
    let same = sym c.same_func.ensures ∙ c.if-not-same_func.false in
    record {
      ts_own = subst (AllByRecursion own) (sym first) (func_own own c.args.f.now c.requires.f_own);
      us_own = subst (AllByRecursion own) (sym second) (func_own own c.args.g.now c.requires.g_own);
      long = long_within (g.J.Ask.tree c.args.judge.now) (S.Func c.args.f.now) (S.Func c.args.g.now) c.deref.result.now c.deref-2.result.now first second same;
      pairs_own = c.requires.pairs_own;
    }

pub returns-clause-fits : goal.returns-clause-fits
returns-clause-fits g c =
    let first = ap lent c.deref.ensures.value ∙ c.in_ok-ts.ensures in
    let second = ap lent c.deref-2.ensures.value ∙ c.in_ok-us.ensures in
    let same = sym c.same_func.ensures ∙ c.if-not-same_func.false in
    IfOk-weaker c.outline_all.result _ _ (λ r h. h ∙ fit_within (g.J.Ask.tree c.args.judge.now) (S.Func c.args.f.now) (S.Func c.args.g.now) c.deref.result.now c.deref-2.result.now first second refl same) c.outline_all.ensures.fits

pub returns-clause-pairs : goal.returns-clause-pairs
returns-clause-pairs g c =
    let first = ap lent c.deref.ensures.value ∙ c.in_ok-ts.ensures in
    let second = ap lent c.deref-2.ensures.value ∙ c.in_ok-us.ensures in
    let same = sym c.same_func.ensures ∙ c.if-not-same_func.false in
    let rest = pairs_within (g.J.Ask.tree c.args.judge.now) (S.Func c.args.f.now) (S.Func c.args.g.now) c.deref.result.now c.deref-2.result.now first second refl same in
    IfOk-weaker c.outline_all.result _ _ (λ r h e. h e ∙ (λ j. map (pair_view (g.J.Ask.tree c.args.judge.now)) c.args.pairs.now.items ++ rest j)) c.outline_all.ensures.pairs
