use Rattle.std.proofs.Common.{◌≡◌, ◌++◌, ◌+◌, ◌-◌, map, refl, sym, ap, subst, ◌∙◌, arith, ◌<◌, List, Vec, Global, get_or, length}
use Rattle.std.proofs.lemmas.Result.{IfOk-weaker}
use Rattle.std.specs.Vec.Iter.{into_iter_items, into_iter_len}
use Rattle.go_term.specs.Types.{TypeData}
use Rattle.go_judge.specs.Types.Forms.{IsOwnForm, answer_as, form_as}
use Rattle.go_judge.specs.Types.Heads.{alike}
use Rattle.go_judge.specs.Types.TypeIdentity.{and_ask, ask_each, fit, interfaces_in, ask_any}
use Rattle.go_judge.specs.Types.TypeSets.{plain}
use Rattle.go_judge.specs.Quests.{Decided, Done, run}
use Rattle.go_same.specs.Bounded as bounded
use Rattle.go_same.specs.Layers.{pair_view}
use Rattle.go_same.specs.MethodOrder.{named_pairs, views_at}
use Rattle.go_same.specs.Sets.{IsOwnFound, func_type, method_view, set_view, part_view}
use Rattle.go_same.proofs.KeepLemmas.{keeps_then, set_types}
use Rattle.go_same.proofs.KeptLemmas.{layer_stays}
use Rattle.go_same.proofs.KeptPairLemmas.{apart_moved, kept_more, kept_stay, layers_moved, on_ok}
use Rattle.go_same.proofs.SameLemmas.{and_no, and_other, first_moved, pair_here, pairs_end, pairs_left, pairs_step, pairs_stop, second_moved, types_within}
use Rattle.go_same.proofs.SameMethodLemmas.{first_here, methods_end, methods_stay, methods_step, methods_stop, rest_moved, second_here, sets_apart, sets_beside, sorted_own, terms_moved, told_named}
use Rattle.go_same.proofs.+same.Goals as goal
use Rattle.std.specs.List.{AllByRecursion}
use Rattle.std.specs.Prelude.{not}
use Rattle.go_judge.specs.Types.TypeIdentity as identity
use Rattle.go_same.specs.declared.set.UnionPart.{UnionPart}
use Rattle.go_same.proofs.AskLemmas.{and-other, and-yes, any-ends, any-next, each-ends, each-next, flat-ends, flat-next, implied-no, implied-other, implied-yes}
use Rattle.go_same.proofs.EitherLemmas.{left_parts}
use Rattle.go_same.proofs.ReachLemmas.{both-found, lies-found}
use Rattle.go_same.proofs.TermLemmas.{any-moved, behind-moved, declared-moved, found-moved, lies-moved, pairs-asked, premise-asked, term-moved, terms-moved, union-moved, within-moved}

pub identity::same_pairs-same_interfaces-requires : goal.identity::same_pairs-same_interfaces-requires
identity::same_pairs-same_interfaces-requires g t c κs lives =
    let inv = c.loop-x.invariant in
    let here = pair_here inv.keeps.kept _ _ (c.in-Some.x, c.in-Some.y) c.in-Some.ensures.steps.0 inv.own_left in
    (omega (arith, c.decreases), (lives, (here.0, (here.1, inv.kept))))

pub identity::same_pairs-loop-x-preserved : goal.identity::same_pairs-loop-x-preserved
identity::same_pairs-loop-x-preserved g t c =
    let inv = c.loop-x.invariant in
    let opens = c.in-Some.ensures.steps.0 in
    record {
      keeps = keeps_then inv.keeps c.same_interfaces.ensures.keeps;
      kept = c.in_ok-other.ensures.kept;
      own_left = pairs_left inv.keeps.kept _ _ (c.in-Some.x, c.in-Some.y) opens inv.own_left;
      left = pairs_step inv.keeps.kept _ _ (c.in-Some.x, c.in-Some.y) opens inv.own_left (g.J.Ask.headers c.args.judge.now) (g.J.Ask.headers c.loop-x.judge) inv.keeps.same (bounded.same_interfaces c.args.bounds) _ _ c.in-Yes.is c.in_ok-other.ensures.answer inv.left;
    }

pub identity::same_pairs-returns-in_default : goal.identity::same_pairs-returns-in_default
identity::same_pairs-returns-in_default g t c =
    let inv = c.loop-x.invariant in
    let opens = c.in-Some.ensures.steps.0 in
    record {
      answer = pairs_stop inv.keeps.kept _ _ (c.in-Some.x, c.in-Some.y) opens inv.own_left (g.J.Ask.headers c.args.judge.now) (g.J.Ask.headers c.loop-x.judge) inv.keeps.same (bounded.same_interfaces c.args.bounds) c.in_ok-other.other _ c.in_default.not-Yes c.in_ok-other.ensures.answer inv.left;
      keeps = keeps_then inv.keeps c.same_interfaces.ensures.keeps;
      kept = c.in_ok-other.ensures.kept;
    }

pub identity::same_pairs-returns-clause-answer : goal.identity::same_pairs-returns-clause-answer
identity::same_pairs-returns-clause-answer g t c =
    pairs_end (g.J.Ask.headers c.args.judge.now) (bounded.same_interfaces c.args.bounds) (g.J.Ask.tree c.args.judge.now) (into_iter_items c.loop-x.x-iterator) (into_iter_len c.loop-x.x-iterator) c.loop-x.x-iterator.rest.ok.0 c.in-None.ensures.steps.0 _ c.loop-x.invariant.left

pub interfaces::same_interfaces-same_unlike-requires : goal.interfaces::same_interfaces-same_unlike-requires
interfaces::same_interfaces-same_unlike-requires g t c κs lives =
    let kept = c.alike_layers.ensures.keeps.kept in
    let apart = apart_moved kept c.args.x c.args.y c.requires.x_own c.requires.y_own (sym c.in_ok-alike_layers.ensures.alike ∙ c.if-branch.false) in
    (omega (arith, c.decreases), (lives, (layer_stays kept c.args.x c.requires.x_own, (layer_stays kept c.args.y c.requires.y_own, (apart, kept_stay c.alike_layers.ensures.keeps c.args.work.now.kept c.requires.kept)))))

pub interfaces::same_interfaces-returns-clause-answer : goal.interfaces::same_interfaces-returns-clause-answer
interfaces::same_interfaces-returns-clause-answer g t c =
    IfOk-weaker c.same_unlike.result _ _ (λ r h. h ∙ layers_moved c.alike_layers.ensures.keeps c.args.bounds c.args.x c.args.y c.requires.x_own c.requires.y_own) c.same_unlike.ensures.answer

pub interfaces::same_unlike-returns-then-branch-clause-answer : goal.interfaces::same_unlike-returns-then-branch-clause-answer
interfaces::same_unlike-returns-then-branch-clause-answer g t c = sym (c.in_ok-is_kept.ensures.told c.if-branch.true)

pub interfaces::same_unlike-same_anew-requires : goal.interfaces::same_unlike-same_anew-requires
interfaces::same_unlike-same_anew-requires g t c κs lives =
    let kept = c.is_kept.ensures.keeps.kept in
    let apart = apart_moved kept c.args.x c.args.y c.requires.x_own c.requires.y_own c.requires.apart in
    (omega (arith, c.decreases), (lives, (layer_stays kept c.args.x c.requires.x_own, (layer_stays kept c.args.y c.requires.y_own, (apart, kept_stay c.is_kept.ensures.keeps c.args.work.now.kept c.requires.kept)))))

pub interfaces::same_unlike-returns-clause-answer : goal.interfaces::same_unlike-returns-clause-answer
interfaces::same_unlike-returns-clause-answer g t c =
    IfOk-weaker c.same_anew.result _ _ (λ r h. h ∙ layers_moved c.is_kept.ensures.keeps c.args.bounds c.args.x c.args.y c.requires.x_own c.requires.y_own) c.same_anew.ensures.answer

pub interfaces::same_anew-same_and_kept-requires : goal.interfaces::same_anew-same_and_kept-requires
interfaces::same_anew-same_and_kept-requires g t c κs lives =
    let made = c.in_ok-a.ensures in
    let apart = ap (λ (p : TypeData × TypeData). alike p.0 p.1) made.types ∙ c.requires.apart in
    (omega (arith, c.decreases), (lives, (made.a_own, (made.b_own, (apart, (made.layers_own, (made.layers ∙ sym made.types, kept_stay c.both_typed.ensures.keeps c.args.work.now.kept c.requires.kept)))))))

pub interfaces::same_anew-returns-clause-answer : goal.interfaces::same_anew-returns-clause-answer
interfaces::same_anew-returns-clause-answer g t c =
    let made = c.in_ok-a.ensures in
    IfOk-weaker c.same_and_kept.result _ _ (λ r h. h ∙ (λ j. run (c.both_typed.ensures.keeps.same j) (bounded.same_interfaces c.args.bounds (made.types j)))) c.same_and_kept.ensures.answer

pub interfaces::same_and_kept-returns-in_ok-keep-in-Yes-clause-kept : goal.interfaces::same_and_kept-returns-in_ok-keep-in-Yes-clause-kept
interfaces::same_and_kept-returns-in_ok-keep-in-Yes-clause-kept g t c =
    kept_more c.same_by_sets.ensures.keeps c.args.bounds c.args.layers c.requires.layers_own _ c.requires.layers (sym (ap answer_as c.in-Yes.is) ∙ c.in_ok-other.ensures.answer) c.same_by_sets.new.work.kept.pairs.items _ c.in_ok-other.ensures.kept c.in_ok-keep-in-Yes.ensures

pub interfaces::same_by_sets-same_as-requires : goal.interfaces::same_by_sets-same_as-requires
interfaces::same_by_sets-same_as-requires g t c κs lives =
    (omega (arith, c.decreases), (lives, (c.in_ok-first.ensures.own, (c.set_of.ensures.keeps.kept.types c.args.b c.requires.b_own, kept_stay c.set_of.ensures.keeps c.args.work.now.kept c.requires.kept))))

pub interfaces::same_by_sets-returns-clause-answer : goal.interfaces::same_by_sets-returns-clause-answer
interfaces::same_by_sets-returns-clause-answer g t c =
    let here = c.set_of.ensures.keeps in
    IfOk-weaker c.same_as.result _ _ (λ r h. h ∙ first_moved here.kept (g.J.Ask.headers c.args.judge.now) (g.J.Ask.headers c.set_of.new.judge) here.same c.args.bounds c.in_ok-first.first c.args.a c.args.b c.requires.b_own c.requires.apart c.in_ok-first.ensures.answer) c.same_as.ensures.answer

pub interfaces::same_as-same_as_set-requires : goal.interfaces::same_as-same_as_set-requires
interfaces::same_as-same_as_set-requires g t c κs lives =
    let keeps = c.set_of.ensures.keeps in
    let owned = subst (IsOwnFound (g.J.Ask.is_type c.args.judge.now)) c.in-Is.is c.requires.first_own in
    (omega (arith, c.decreases), (lives, (set_types keeps.kept c.in-Is.s owned, (c.in_ok-second-in-Is.ensures.own, kept_stay keeps c.args.work.now.kept c.requires.kept))))

pub interfaces::same_as-returns-in_ok-second-in-Is-clause-answer : goal.interfaces::same_as-returns-in_ok-second-in-Is-clause-answer
interfaces::same_as-returns-in_ok-second-in-Is-clause-answer g t c =
    let keeps = c.set_of.ensures.keeps in
    let owned = subst (IsOwnFound (g.J.Ask.is_type c.args.judge.now)) c.in-Is.is c.requires.first_own in
    IfOk-weaker c.same_as_set.result _ _ (λ r h. h ∙ second_moved keeps.kept (g.J.Ask.headers c.args.judge.now) (g.J.Ask.headers c.set_of.new.judge) keeps.same c.args.bounds c.args.first c.in_ok-second-in-Is.second c.in-Is.s c.args.b c.in-Is.is owned c.in_ok-second-in-Is.ensures.answer) c.same_as_set.ensures.answer

pub identity::same_sets-same_fitting-requires : goal.identity::same_sets-same_fitting-requires
identity::same_sets-same_fitting-requires g t c κs lives =
    let own = g.J.Ask.is_type c.args.judge.now in
    let first = sorted_own own c.args.s c.sort_methods.new.methods c.sort_methods.ensures.same c.requires.s_own in
    let second = sorted_own own c.args.t c.sort_methods-2.new.methods c.sort_methods-2.ensures.same c.requires.t_own in
    (omega (arith, c.decreases), (lives, (first, (second, (c.in_ok-sort_methods.ensures.sorted, (c.in_ok-sort_methods-2.ensures.sorted, c.requires.kept))))))

pub identity::same_sets-returns-then-not-sets_fit-clause-answer : goal.identity::same_sets-returns-then-not-sets_fit-clause-answer
identity::same_sets-returns-then-not-sets_fit-clause-answer g t c =
    let tree = g.J.Ask.tree c.args.judge.now in
    sets_apart tree c.args.s c.args.t c.sort_methods.new.methods c.sort_methods-2.new.methods (c.in_ok-sort_methods.ensures.by_name tree) (c.in_ok-sort_methods-2.ensures.by_name tree) (g.J.Ask.headers c.args.judge.now) c.args.bounds (sym c.if-not-sets_fit.true ∙ c.sets_fit.ensures tree)

pub identity::same_sets-returns-clause-answer : goal.identity::same_sets-returns-clause-answer
identity::same_sets-returns-clause-answer g t c =
    let tree = g.J.Ask.tree c.args.judge.now in
    IfOk-weaker c.same_fitting.result _ _ (λ r h. h ∙ sets_beside tree c.args.s c.args.t c.sort_methods.new.methods c.sort_methods-2.new.methods (c.in_ok-sort_methods.ensures.by_name tree) (c.in_ok-sort_methods-2.ensures.by_name tree) (g.J.Ask.headers c.args.judge.now) c.args.bounds (sym c.if-not-sets_fit.false ∙ c.sets_fit.ensures tree)) c.same_fitting.ensures.answer

pub identity::same_fitting-returns : goal.identity::same_fitting-returns
identity::same_fitting-returns g t c =
    let tree = g.J.Ask.tree c.args.judge.now in
    let told = told_named tree (g.J.Ask.headers c.args.judge.now) c.args.bounds c.args.s.now.methods.items c.args.t.now.methods.items c.deref.result.now c.deref-2.result.now c.deref-3.result.now c.deref-4.result.now c.in_ok-pairs.pairs.items c.deref-5.result.now c.deref.ensures.value c.deref-2.ensures.value c.deref-3.ensures.value c.deref-4.ensures.value c.deref-5.ensures.value c.in_ok-pairs.ensures.in_range (c.in_ok-pairs.ensures.pairs tree) c.in_ok-other.other c.in_ok-other.ensures.answer in
    record {
      answer = and_other (g.J.Ask.headers c.args.judge.now) c.in_ok-other.other _ (bounded.same_terms c.args.bounds (set_view tree c.args.s.now) (set_view tree c.args.t.now)) c.in_default.not-Yes told;
      keeps = c.same_methods_all.ensures.keeps;
      kept = c.in_ok-other.ensures.kept;
    }

pub identity::same_fitting-returns-in-Yes-clause-answer : goal.identity::same_fitting-returns-in-Yes-clause-answer
identity::same_fitting-returns-in-Yes-clause-answer g t c =
    let tree = g.J.Ask.tree c.args.judge.now in
    let keeps = c.same_methods_all.ensures.keeps in
    let told = told_named tree (g.J.Ask.headers c.args.judge.now) c.args.bounds c.args.s.now.methods.items c.args.t.now.methods.items c.deref.result.now c.deref-2.result.now c.deref-3.result.now c.deref-4.result.now c.in_ok-pairs.pairs.items c.deref-5.result.now c.deref.ensures.value c.deref-2.ensures.value c.deref-3.ensures.value c.deref-4.ensures.value c.deref-5.ensures.value c.in_ok-pairs.ensures.in_range (c.in_ok-pairs.ensures.pairs tree) c.in_ok-other.other c.in_ok-other.ensures.answer in
    let known = g.J.Ask.headers c.args.judge.now in
    let known' = g.J.Ask.headers c.same_methods_all.new.judge in
    let tree' = g.J.Ask.tree c.same_methods_all.new.judge in
    let methods = bounded.same_methods_all c.args.bounds (named_pairs (map (method_view tree) c.args.s.now.methods.items) (map (method_view tree) c.args.t.now.methods.items)) in
    let left : run known' (bounded.same_terms c.args.bounds (set_view tree' c.args.s.now) (set_view tree' c.args.t.now)) ≡ run known (and_ask methods (bounded.same_terms c.args.bounds (set_view tree c.args.s.now) (set_view tree c.args.t.now))) =
    terms_moved {own = g.J.Ask.is_type c.args.judge.now} {own' = g.J.Ask.is_type c.same_methods_all.new.judge} {tree = tree} {tree' = tree'} keeps.kept known known' keeps.same c.args.bounds c.args.s.now c.args.t.now c.requires.s_own c.requires.t_own methods (sym (ap answer_as c.in-Yes.is) ∙ told) in
    IfOk-weaker c.same_terms.result (λ r. answer_as r ≡ run known' (bounded.same_terms c.args.bounds (set_view tree' c.args.s.now) (set_view tree' c.args.t.now))) _ (λ r h. h ∙ left) c.same_terms.ensures.answer

pub identity::same_methods_all-returns-then-not-branch-clause-answer : goal.identity::same_methods_all-returns-then-not-branch-clause-answer
identity::same_methods_all-returns-then-not-branch-clause-answer g t c other =
    let views = map (views_at (map (method_view (g.J.Ask.tree c.args.judge.now)) c.args.ms.now) (map (method_view (g.J.Ask.tree c.args.judge.now)) c.args.ns.now) other) c.args.pairs.now in
    and_no (g.J.Ask.headers c.args.judge.now) (ask_each (λ p. Done (fit p.0.type p.1.type)) views) (ask_each (bounded.same_methods c.args.bounds) views) (c.in_ok-methods_fit.ensures.fits other ∙ ap Decided c.if-not-branch.true)

pub identity::same_methods_all-same_methods-requires : goal.identity::same_methods_all-same_methods-requires
identity::same_methods_all-same_methods-requires g t c κs lives =
    let kept = c.methods_fit.ensures.keeps.kept in
    (omega (arith, c.decreases), (lives, (methods_stay kept c.args.ms.now c.requires.m_own, (methods_stay kept c.args.ns.now c.requires.n_own, (c.requires.in_range, kept_stay c.methods_fit.ensures.keeps c.args.work.now.kept c.requires.kept)))))

pub identity::same_methods_all-returns-clause-answer : goal.identity::same_methods_all-returns-clause-answer
identity::same_methods_all-returns-clause-answer g t c =
    let keeps = c.methods_fit.ensures.keeps in
    IfOk-weaker c.same_methods.result _ _ (λ r h other. h other ∙ rest_moved keeps.kept (g.J.Ask.headers c.args.judge.now) (g.J.Ask.headers c.methods_fit.new.judge) keeps.same c.args.bounds c.args.ms.now c.args.ns.now c.requires.m_own c.requires.n_own c.args.pairs.now other (c.in_ok-methods_fit.ensures.fits other ∙ ap Decided c.if-not-branch.false)) c.same_methods.ensures.answer

pub identity::same_methods-same_method-requires : goal.identity::same_methods-same_method-requires
identity::same_methods-same_method-requires g t c κs lives =
    let kept = c.loop-i.invariant.keeps.kept in
    let first = first_here c.args.pairs.now c.loop-i.i-index c.loop-i-test.true kept c.args.ms.now c.args.ns.now c.requires.in_range c.index-ms-i.result c.index-ns-k.result c.index-ms-i.is c.index-ns-k.is c.requires.m_own c.requires.n_own in
    let second = second_here c.args.pairs.now c.loop-i.i-index c.loop-i-test.true kept c.args.ms.now c.args.ns.now c.requires.in_range c.index-ms-i.result c.index-ns-k.result c.index-ms-i.is c.index-ns-k.is c.requires.m_own c.requires.n_own in
    (omega (arith, c.decreases), (lives, (first, (second, c.loop-i.invariant.kept))))

pub identity::same_methods-loop-i-preserved : goal.identity::same_methods-loop-i-preserved
identity::same_methods-loop-i-preserved g t c =
    let inv = c.loop-i.invariant in
    record {
      keeps = keeps_then inv.keeps c.same_method.ensures.keeps;
      kept = c.in_ok-other.ensures.kept;
      left = λ other. methods_step c.args.pairs.now c.loop-i.i-index c.loop-i-test.true inv.keeps.kept c.args.ms.now c.args.ns.now c.requires.in_range c.index-ms-i.result c.index-ns-k.result c.index-ms-i.is c.index-ns-k.is c.requires.m_own c.requires.n_own (g.J.Ask.headers c.args.judge.now) (g.J.Ask.headers c.loop-i.judge) inv.keeps.same (bounded.same_methods c.args.bounds) other _ _ c.in-Yes.is c.in_ok-other.ensures.answer (inv.left other);
    }

pub identity::same_methods-returns-in_default : goal.identity::same_methods-returns-in_default
identity::same_methods-returns-in_default g t c =
    let inv = c.loop-i.invariant in
    record {
      answer = λ other. methods_stop c.args.pairs.now c.loop-i.i-index c.loop-i-test.true inv.keeps.kept c.args.ms.now c.args.ns.now c.requires.in_range c.index-ms-i.result c.index-ns-k.result c.index-ms-i.is c.index-ns-k.is c.requires.m_own c.requires.n_own (g.J.Ask.headers c.args.judge.now) (g.J.Ask.headers c.loop-i.judge) inv.keeps.same (bounded.same_methods c.args.bounds) other c.in_ok-other.other _ c.in_default.not-Yes c.in_ok-other.ensures.answer (inv.left other);
      keeps = keeps_then inv.keeps c.same_method.ensures.keeps;
      kept = c.in_ok-other.ensures.kept;
    }

pub identity::same_methods-returns-clause-answer : goal.identity::same_methods-returns-clause-answer
identity::same_methods-returns-clause-answer g t c other =
    methods_end (g.J.Ask.headers c.args.judge.now) (bounded.same_methods c.args.bounds) (views_at (map (method_view (g.J.Ask.tree c.args.judge.now)) c.args.ms.now) (map (method_view (g.J.Ask.tree c.args.judge.now)) c.args.ns.now) other) c.args.pairs.now c.loop-i.i-index c.loop-i-test.false _ (c.loop-i.invariant.left other)

pub identity::same_funcs-returns-clause-answer : goal.identity::same_funcs-returns-clause-answer
identity::same_funcs-returns-clause-answer g t c =
    let keeps = c.outline_funcs.ensures.keeps in
    let tree = g.J.Ask.tree c.args.judge.now in
    let x = plain (func_type tree c.args.f.now) in
    let y = plain (func_type tree c.args.g.now) in
    let fits = c.if-not-branch.false in
    let pairs = c.in_ok-outline_funcs.ensures.pairs fits ∙ ap (λ ps. map (pair_view tree) ps ++ interfaces_in x y) c.new-pairs.ensures.items in
    IfOk-weaker c.same_pairs.result _ _ (λ r h. h
    ∙ types_within (g.J.Ask.headers c.args.judge.now) x y c.args.bounds (c.args.bounds.levels - 1) (omega arith) c.args.bounds.left c.args.bounds.short refl refl (sym fits ∙ c.in_ok-outline_funcs.ensures.fits) _ pairs (g.J.Ask.headers c.outline_funcs.new.judge) keeps.same) c.same_pairs.ensures.answer

pub within::terms_lie-loop-u-preserved : goal.within::terms_lie-loop-u-preserved
within::terms_lie-loop-u-preserved g t c =
    let inv = c.loop-u.invariant in
    let here = c.in_ok-other.ensures.keeps in
    let within = subst (λ (us : List (Vec UnionPart Global)). c.loop-u.u-index < length us) c.deref-u-items.ensures.value c.loop-u-test.true in
    let at = subst (λ (us : List (Vec UnionPart Global)). c.u-item.result ≡ get_or us c.loop-u.u-index c.u-item.result) c.deref-u-items.ensures.value c.u-item.is in
    let mine = left_parts c.args.s.now.unions.items c.loop-u.u-index c.u-item.result within at (λ u. AllByRecursion (λ p. g.J.Ask.is_type c.args.judge.now p.ty) u.items) inv.own_left in
    let told = c.in_ok-other.ensures.answer ∙ union-moved inv.keeps.kept (g.J.Ask.headers c.args.judge.now) (g.J.Ask.headers c.loop-u.judge) inv.keeps.same c.args.bounds c.deref.result.now c.u-item.result.items c.deref.ensures.value c.args.s.now c.args.t.now mine.0 c.requires.s_own c.requires.t_own in
    record {
      keeps = keeps_then inv.keeps here;
      kept = c.in_ok-other.ensures.kept;
      own_left = mine.1;
      left = flat-next (g.J.Ask.headers c.args.judge.now) c.args.s.now.unions.items c.loop-u.u-index _ c.u-item.result within at c.in_ok-other.other (bounded.term_lies c.args.bounds (set_view (g.J.Ask.tree c.args.judge.now) c.args.s.now) (set_view (g.J.Ask.tree c.args.judge.now) c.args.t.now)) (λ u. map (part_view (g.J.Ask.tree c.args.judge.now)) u.items) c.in-Yes.is told inv.left;
    }

pub within::terms_lie-returns-in_default : goal.within::terms_lie-returns-in_default
within::terms_lie-returns-in_default g t c =
    let inv = c.loop-u.invariant in
    let here = c.in_ok-other.ensures.keeps in
    let within = subst (λ (us : List (Vec UnionPart Global)). c.loop-u.u-index < length us) c.deref-u-items.ensures.value c.loop-u-test.true in
    let at = subst (λ (us : List (Vec UnionPart Global)). c.u-item.result ≡ get_or us c.loop-u.u-index c.u-item.result) c.deref-u-items.ensures.value c.u-item.is in
    let mine = left_parts c.args.s.now.unions.items c.loop-u.u-index c.u-item.result within at (λ u. AllByRecursion (λ p. g.J.Ask.is_type c.args.judge.now p.ty) u.items) inv.own_left in
    let told = c.in_ok-other.ensures.answer ∙ union-moved inv.keeps.kept (g.J.Ask.headers c.args.judge.now) (g.J.Ask.headers c.loop-u.judge) inv.keeps.same c.args.bounds c.deref.result.now c.u-item.result.items c.deref.ensures.value c.args.s.now c.args.t.now mine.0 c.requires.s_own c.requires.t_own in
    record {
      answer = flat-ends (g.J.Ask.headers c.args.judge.now) c.args.s.now.unions.items c.loop-u.u-index _ c.u-item.result within at c.in_ok-other.other (bounded.term_lies c.args.bounds (set_view (g.J.Ask.tree c.args.judge.now) c.args.s.now) (set_view (g.J.Ask.tree c.args.judge.now) c.args.t.now)) (λ u. map (part_view (g.J.Ask.tree c.args.judge.now)) u.items) c.in_default.not-Yes told inv.left;
      keeps = keeps_then inv.keeps here;
      kept = c.in_ok-other.ensures.kept;
    }

pub within::union_lies-loop-a-preserved : goal.within::union_lies-loop-a-preserved
within::union_lies-loop-a-preserved g t c =
    let inv = c.loop-a.invariant in
    let here = c.in_ok-other.ensures.keeps in
    let mine = left_parts c.args.u.now c.loop-a.a-index c.a-item.result c.loop-a-test.true c.a-item.is (λ p. g.J.Ask.is_type c.args.judge.now p.ty) inv.own_left in
    let told = c.in_ok-other.ensures.answer ∙ term-moved inv.keeps.kept (g.J.Ask.headers c.args.judge.now) (g.J.Ask.headers c.loop-a.judge) inv.keeps.same c.args.bounds c.a-item.result c.args.s.now c.args.t.now mine.0 c.requires.s_own c.requires.t_own in
    record {
      keeps = keeps_then inv.keeps here;
      kept = c.in_ok-other.ensures.kept;
      own_left = mine.1;
      left = each-next (g.J.Ask.headers c.args.judge.now) c.args.u.now c.loop-a.a-index _ c.a-item.result c.loop-a-test.true c.a-item.is c.in_ok-other.other (bounded.term_lies c.args.bounds (set_view (g.J.Ask.tree c.args.judge.now) c.args.s.now) (set_view (g.J.Ask.tree c.args.judge.now) c.args.t.now)) (part_view (g.J.Ask.tree c.args.judge.now)) c.in-Yes.is told inv.left;
    }

pub within::union_lies-returns-in_default : goal.within::union_lies-returns-in_default
within::union_lies-returns-in_default g t c =
    let inv = c.loop-a.invariant in
    let here = c.in_ok-other.ensures.keeps in
    let mine = left_parts c.args.u.now c.loop-a.a-index c.a-item.result c.loop-a-test.true c.a-item.is (λ p. g.J.Ask.is_type c.args.judge.now p.ty) inv.own_left in
    let told = c.in_ok-other.ensures.answer ∙ term-moved inv.keeps.kept (g.J.Ask.headers c.args.judge.now) (g.J.Ask.headers c.loop-a.judge) inv.keeps.same c.args.bounds c.a-item.result c.args.s.now c.args.t.now mine.0 c.requires.s_own c.requires.t_own in
    record {
      answer = each-ends (g.J.Ask.headers c.args.judge.now) c.args.u.now c.loop-a.a-index _ c.a-item.result c.loop-a-test.true c.a-item.is c.in_ok-other.other (bounded.term_lies c.args.bounds (set_view (g.J.Ask.tree c.args.judge.now) c.args.s.now) (set_view (g.J.Ask.tree c.args.judge.now) c.args.t.now)) (part_view (g.J.Ask.tree c.args.judge.now)) c.in_default.not-Yes told inv.left;
      keeps = keeps_then inv.keeps here;
      kept = c.in_ok-other.ensures.kept;
    }

pub within::lies_in-loop-u-preserved : goal.within::lies_in-loop-u-preserved
within::lies_in-loop-u-preserved g t c =
    let inv = c.loop-u.invariant in
    let here = c.in_ok-other.ensures.keeps in
    let mine = left_parts c.args.unions.now c.loop-u.u-index c.u-item.result c.loop-u-test.true c.u-item.is (λ u. AllByRecursion (λ p. g.J.Ask.is_type c.args.judge.now p.ty) u.items) inv.own_left in
    let told = c.in_ok-other.ensures.answer ∙ any-moved inv.keeps.kept (g.J.Ask.headers c.args.judge.now) (g.J.Ask.headers c.loop-u.judge) inv.keeps.same c.args.bounds c.deref.result.now c.u-item.result.items c.deref.ensures.value c.args.a.now mine.0 c.requires.a_own in
    record {
      keeps = keeps_then inv.keeps here;
      kept = c.in_ok-other.ensures.kept;
      own_left = mine.1;
      left = each-next (g.J.Ask.headers c.args.judge.now) c.args.unions.now c.loop-u.u-index _ c.u-item.result c.loop-u-test.true c.u-item.is c.in_ok-other.other (λ u. ask_any (bounded.lies_within c.args.bounds (part_view (g.J.Ask.tree c.args.judge.now) c.args.a.now)) u) (λ u. map (part_view (g.J.Ask.tree c.args.judge.now)) u.items) c.in-Yes.is told inv.left;
    }

pub within::lies_in-returns-in_default : goal.within::lies_in-returns-in_default
within::lies_in-returns-in_default g t c =
    let inv = c.loop-u.invariant in
    let here = c.in_ok-other.ensures.keeps in
    let mine = left_parts c.args.unions.now c.loop-u.u-index c.u-item.result c.loop-u-test.true c.u-item.is (λ u. AllByRecursion (λ p. g.J.Ask.is_type c.args.judge.now p.ty) u.items) inv.own_left in
    let told = c.in_ok-other.ensures.answer ∙ any-moved inv.keeps.kept (g.J.Ask.headers c.args.judge.now) (g.J.Ask.headers c.loop-u.judge) inv.keeps.same c.args.bounds c.deref.result.now c.u-item.result.items c.deref.ensures.value c.args.a.now mine.0 c.requires.a_own in
    record {
      answer = each-ends (g.J.Ask.headers c.args.judge.now) c.args.unions.now c.loop-u.u-index _ c.u-item.result c.loop-u-test.true c.u-item.is c.in_ok-other.other (λ u. ask_any (bounded.lies_within c.args.bounds (part_view (g.J.Ask.tree c.args.judge.now) c.args.a.now)) u) (λ u. map (part_view (g.J.Ask.tree c.args.judge.now)) u.items) c.in_default.not-Yes told inv.left;
      keeps = keeps_then inv.keeps here;
      kept = c.in_ok-other.ensures.kept;
    }

pub within::lies_in_union-loop-b-preserved : goal.within::lies_in_union-loop-b-preserved
within::lies_in_union-loop-b-preserved g t c =
    let inv = c.loop-b.invariant in
    let here = c.in_ok-other.ensures.keeps in
    let mine = left_parts c.args.u.now c.loop-b.b-index c.b-item.result c.loop-b-test.true c.b-item.is (λ p. g.J.Ask.is_type c.args.judge.now p.ty) inv.own_left in
    let told = c.in_ok-other.ensures.answer ∙ within-moved inv.keeps.kept (g.J.Ask.headers c.args.judge.now) (g.J.Ask.headers c.loop-b.judge) inv.keeps.same c.args.bounds c.args.a.now c.b-item.result c.requires.a_own mine.0 in
    record {
      keeps = keeps_then inv.keeps here;
      kept = c.in_ok-other.ensures.kept;
      own_left = mine.1;
      left = any-next (g.J.Ask.headers c.args.judge.now) c.args.u.now c.loop-b.b-index _ c.b-item.result c.loop-b-test.true c.b-item.is c.in_ok-other.other (bounded.lies_within c.args.bounds (part_view (g.J.Ask.tree c.args.judge.now) c.args.a.now)) (part_view (g.J.Ask.tree c.args.judge.now)) c.in-No.is told inv.left;
    }

pub within::lies_in_union-returns-in_default : goal.within::lies_in_union-returns-in_default
within::lies_in_union-returns-in_default g t c =
    let inv = c.loop-b.invariant in
    let here = c.in_ok-other.ensures.keeps in
    let mine = left_parts c.args.u.now c.loop-b.b-index c.b-item.result c.loop-b-test.true c.b-item.is (λ p. g.J.Ask.is_type c.args.judge.now p.ty) inv.own_left in
    let told = c.in_ok-other.ensures.answer ∙ within-moved inv.keeps.kept (g.J.Ask.headers c.args.judge.now) (g.J.Ask.headers c.loop-b.judge) inv.keeps.same c.args.bounds c.args.a.now c.b-item.result c.requires.a_own mine.0 in
    record {
      answer = any-ends (g.J.Ask.headers c.args.judge.now) c.args.u.now c.loop-b.b-index _ c.b-item.result c.loop-b-test.true c.b-item.is c.in_ok-other.other (bounded.lies_within c.args.bounds (part_view (g.J.Ask.tree c.args.judge.now) c.args.a.now)) (part_view (g.J.Ask.tree c.args.judge.now)) c.in_default.not-No told inv.left;
      keeps = keeps_then inv.keeps here;
      kept = c.in_ok-other.ensures.kept;
    }

pub within::same_terms-returns-in-Yes-clause-answer : goal.within::same_terms-returns-in-Yes-clause-answer
within::same_terms-returns-in-Yes-clause-answer g t c =
    let here = c.in_ok-other.ensures.keeps in
    IfOk-weaker c.terms_lie-in-Yes.result _ _ (λ r h. h ∙ terms-moved here.kept (g.J.Ask.headers c.args.judge.now) (g.J.Ask.headers c.terms_lie.new.judge) here.same c.args.bounds c.args.t.now c.args.s.now c.requires.t_own c.requires.s_own
    ∙ and-yes (g.J.Ask.headers c.args.judge.now) (bounded.terms_lie c.args.bounds (set_view (g.J.Ask.tree c.args.judge.now) c.args.s.now) (set_view (g.J.Ask.tree c.args.judge.now) c.args.t.now)) (bounded.terms_lie c.args.bounds (set_view (g.J.Ask.tree c.args.judge.now) c.args.t.now) (set_view (g.J.Ask.tree c.args.judge.now) c.args.s.now)) c.in_ok-other.other c.in-Yes.is c.in_ok-other.ensures.answer) c.terms_lie-in-Yes.ensures.answer

pub within::same_terms-returns-in_default : goal.within::same_terms-returns-in_default
within::same_terms-returns-in_default g t c =
    record {
      answer = and-other (g.J.Ask.headers c.args.judge.now) (bounded.terms_lie c.args.bounds (set_view (g.J.Ask.tree c.args.judge.now) c.args.s.now) (set_view (g.J.Ask.tree c.args.judge.now) c.args.t.now)) (bounded.terms_lie c.args.bounds (set_view (g.J.Ask.tree c.args.judge.now) c.args.t.now) (set_view (g.J.Ask.tree c.args.judge.now) c.args.s.now)) c.in_ok-other.other c.in_default.not-Yes c.in_ok-other.ensures.answer;
      keeps = c.in_ok-other.ensures.keeps;
      kept = c.in_ok-other.ensures.kept;
    }

pub within::term_lies-returns-in-Yes-clause-answer : goal.within::term_lies-returns-in-Yes-clause-answer
within::term_lies-returns-in-Yes-clause-answer g t c =
    let limits = c.of_premise.ensures in
    let told = c.in_ok-other.ensures.answer ∙ premise-asked (g.J.Ask.headers c.args.judge.now) c.args.bounds c.of_premise.result limits.levels limits.left limits.short (g.J.Ask.tree c.args.judge.now) c.deref.result.now c.args.s.now.unions.items c.deref.ensures.value (part_view (g.J.Ask.tree c.args.judge.now) c.args.a.now) in
    let here = c.in_ok-other.ensures.keeps in
    IfOk-weaker c.lies_in-in-Yes.result _ _ (λ r h. h ∙ lies-moved here.kept (g.J.Ask.headers c.args.judge.now) (g.J.Ask.headers c.lies_in.new.judge) here.same c.args.bounds c.deref-in-Yes.result.now c.args.t.now.unions.items c.deref-in-Yes.ensures.value c.args.a.now c.requires.t_own.1 c.requires.a_own
    ∙ implied-yes (g.J.Ask.headers c.args.judge.now) (identity.lies_in (identity.same c.args.bounds.levels) c.args.bounds.left (not c.args.bounds.short) (map (λ u. map (part_view (g.J.Ask.tree c.args.judge.now)) u.items) c.args.s.now.unions.items) (part_view (g.J.Ask.tree c.args.judge.now) c.args.a.now)) (bounded.lies_in c.args.bounds (map (λ u. map (part_view (g.J.Ask.tree c.args.judge.now)) u.items) c.args.t.now.unions.items) (part_view (g.J.Ask.tree c.args.judge.now) c.args.a.now)) c.in_ok-other.other c.in-Yes.is told) c.lies_in-in-Yes.ensures.answer

pub within::term_lies-returns-in-No-clause-answer : goal.within::term_lies-returns-in-No-clause-answer
within::term_lies-returns-in-No-clause-answer g t c =
    let limits = c.of_premise.ensures in
    let told = c.in_ok-other.ensures.answer ∙ premise-asked (g.J.Ask.headers c.args.judge.now) c.args.bounds c.of_premise.result limits.levels limits.left limits.short (g.J.Ask.tree c.args.judge.now) c.deref.result.now c.args.s.now.unions.items c.deref.ensures.value (part_view (g.J.Ask.tree c.args.judge.now) c.args.a.now) in
    implied-no (g.J.Ask.headers c.args.judge.now) (identity.lies_in (identity.same c.args.bounds.levels) c.args.bounds.left (not c.args.bounds.short) (map (λ u. map (part_view (g.J.Ask.tree c.args.judge.now)) u.items) c.args.s.now.unions.items) (part_view (g.J.Ask.tree c.args.judge.now) c.args.a.now)) (bounded.lies_in c.args.bounds (map (λ u. map (part_view (g.J.Ask.tree c.args.judge.now)) u.items) c.args.t.now.unions.items) (part_view (g.J.Ask.tree c.args.judge.now) c.args.a.now)) c.in_ok-other.other c.in-No.is told

pub within::term_lies-returns-in_default-clause-answer : goal.within::term_lies-returns-in_default-clause-answer
within::term_lies-returns-in_default-clause-answer g t c =
    let limits = c.of_premise.ensures in
    let told = c.in_ok-other.ensures.answer ∙ premise-asked (g.J.Ask.headers c.args.judge.now) c.args.bounds c.of_premise.result limits.levels limits.left limits.short (g.J.Ask.tree c.args.judge.now) c.deref.result.now c.args.s.now.unions.items c.deref.ensures.value (part_view (g.J.Ask.tree c.args.judge.now) c.args.a.now) in
    implied-other (g.J.Ask.headers c.args.judge.now) (identity.lies_in (identity.same c.args.bounds.levels) c.args.bounds.left (not c.args.bounds.short) (map (λ u. map (part_view (g.J.Ask.tree c.args.judge.now)) u.items) c.args.s.now.unions.items) (part_view (g.J.Ask.tree c.args.judge.now) c.args.a.now)) (bounded.lies_in c.args.bounds (map (λ u. map (part_view (g.J.Ask.tree c.args.judge.now)) u.items) c.args.t.now.unions.items) (part_view (g.J.Ask.tree c.args.judge.now) c.args.a.now)) c.in_ok-other.other c.in_default.not-Yes c.in_default.not-No told

pub within::same_types-returns-clause-answer : goal.within::same_types-returns-clause-answer
within::same_types-returns-clause-answer g t c =
    let here = c.in_ok-outline.ensures in
    IfOk-weaker c.same_pairs.result _ _ (λ r h. h ∙ pairs-asked (g.J.Ask.headers c.args.judge.now) (g.J.Ask.headers c.outline.new.judge) here.keeps.same c.args.bounds c.if-bounds-eq0.false (plain (g.J.Ask.tree c.args.judge.now c.args.a.now)) (plain (g.J.Ask.tree c.args.judge.now c.args.b.now)) c.in_ok-outline.field-0 here.fits c.if-not-branch.false
    (map (pair_view (g.J.Ask.tree c.outline.new.judge)) c.outline.new.pairs.items)
    (here.pairs c.if-not-branch.false ∙ ap (λ ps. map (pair_view (g.J.Ask.tree c.args.judge.now)) ps ++ interfaces_in (plain (g.J.Ask.tree c.args.judge.now c.args.a.now)) (plain (g.J.Ask.tree c.args.judge.now c.args.b.now))) c.new-pairs.ensures.items)) c.same_pairs.ensures.answer

pub within::has_underlying-returns-in-Is-clause-answer : goal.within::has_underlying-returns-in-Is-clause-answer
within::has_underlying-returns-in-Is-clause-answer g t c =
    let here = c.in_ok-u.ensures.keeps in
    IfOk-weaker c.same_behind.result _ _ (λ r h. h ∙ behind-moved (g.J.Ask.headers c.args.judge.now) (g.J.Ask.headers c.underlying.new.self) here.same c.args.bounds c.args.opened (plain (g.J.Ask.tree c.underlying.new.self c.in-Is.u)) (here.kept.trees c.args.b.now c.requires.b_own)
    ∙ lies-found (g.J.Ask.headers c.args.judge.now) c.args.bounds c.args.opened (g.J.Ask.tree c.args.judge.now c.args.a.now) (plain (g.J.Ask.tree c.args.judge.now c.args.b.now)) _ (ap (form_as (g.J.Ask.tree c.underlying.new.self)) (sym c.in-Is.is) ∙ c.in_ok-u.ensures.answer)) c.same_behind.ensures.answer

pub within::has_underlying-returns-in-Absent-clause-answer : goal.within::has_underlying-returns-in-Absent-clause-answer
within::has_underlying-returns-in-Absent-clause-answer g t c =
    c.answer.ensures ∙ lies-found (g.J.Ask.headers c.args.judge.now) c.args.bounds c.args.opened (g.J.Ask.tree c.args.judge.now c.args.a.now) (plain (g.J.Ask.tree c.args.judge.now c.args.b.now)) _ (ap (form_as (g.J.Ask.tree c.underlying.new.self)) (sym c.in-Absent.is) ∙ c.in_ok-u.ensures.answer)

pub within::has_underlying-returns-in-Unknown-clause-answer : goal.within::has_underlying-returns-in-Unknown-clause-answer
within::has_underlying-returns-in-Unknown-clause-answer g t c =
    lies-found (g.J.Ask.headers c.args.judge.now) c.args.bounds c.args.opened (g.J.Ask.tree c.args.judge.now c.args.a.now) (plain (g.J.Ask.tree c.args.judge.now c.args.b.now)) _ (ap (form_as (g.J.Ask.tree c.underlying.new.self)) (sym c.in-Unknown.is) ∙ c.in_ok-u.ensures.answer)

pub one_type::same_apart-returns-in-Yes-clause-answer : goal.one_type::same_apart-returns-in-Yes-clause-answer
one_type::same_apart-returns-in-Yes-clause-answer g t c =
    let here = c.in_ok-other.ensures.keeps in
    let known = g.J.Ask.headers c.args.judge.now in
    let opened = c.args.a.now.opened + c.args.b.now.opened in
    let first = plain (g.J.Ask.tree c.args.judge.now c.args.a.now.ty) in
    let second = plain (g.J.Ask.tree c.args.judge.now c.args.b.now.ty) in
    IfOk-weaker c.same_declared.result _ _ (λ r h. h ∙ declared-moved here.kept known (g.J.Ask.headers c.same_behind.new.judge) here.same c.args.bounds (opened + 2) c.args.a.now.ty c.args.b.now.ty c.requires.a_own c.requires.b_own
    ∙ and-yes known (bounded.behind c.args.bounds opened first second) (bounded.same_declared c.args.bounds (opened + 2) first second) c.in_ok-other.other c.in-Yes.is c.in_ok-other.ensures.answer) c.same_declared.ensures.answer

pub one_type::same_apart-returns-in_default : goal.one_type::same_apart-returns-in_default
one_type::same_apart-returns-in_default g t c =
    let opened = c.args.a.now.opened + c.args.b.now.opened in
    let first = plain (g.J.Ask.tree c.args.judge.now c.args.a.now.ty) in
    let second = plain (g.J.Ask.tree c.args.judge.now c.args.b.now.ty) in
    record {
      answer = and-other (g.J.Ask.headers c.args.judge.now) (bounded.behind c.args.bounds opened first second) (bounded.same_declared c.args.bounds (opened + 2) first second) c.in_ok-other.other c.in_default.not-Yes c.in_ok-other.ensures.answer;
      keeps = c.in_ok-other.ensures.keeps;
      kept = c.in_ok-other.ensures.kept;
    }

pub one_type::same_underlying-returns-in-Is-clause-answer : goal.one_type::same_underlying-returns-in-Is-clause-answer
one_type::same_underlying-returns-in-Is-clause-answer g t c =
    let here = c.in_ok-v.ensures.keeps in
    let known = g.J.Ask.headers c.args.judge.now in
    IfOk-weaker c.has_underlying.result _ _ (λ r h. h ∙ found-moved known (g.J.Ask.headers c.underlying.new.self) here.same c.args.bounds c.args.opened (here.kept.trees c.args.a.now c.requires.a_own) (plain (g.J.Ask.tree c.underlying.new.self c.in-Is.v))
    ∙ both-found known c.args.bounds c.args.opened (plain (g.J.Ask.tree c.args.judge.now c.args.a.now)) (g.J.Ask.tree c.args.judge.now c.args.b.now) _ (ap (form_as (g.J.Ask.tree c.underlying.new.self)) (sym c.in-Is.is) ∙ c.in_ok-v.ensures.answer)) c.has_underlying.ensures.answer

pub one_type::same_underlying-returns-in-Absent-clause-answer : goal.one_type::same_underlying-returns-in-Absent-clause-answer
one_type::same_underlying-returns-in-Absent-clause-answer g t c =
    c.answer.ensures ∙ both-found (g.J.Ask.headers c.args.judge.now) c.args.bounds c.args.opened (plain (g.J.Ask.tree c.args.judge.now c.args.a.now)) (g.J.Ask.tree c.args.judge.now c.args.b.now) _ (ap (form_as (g.J.Ask.tree c.underlying.new.self)) (sym c.in-Absent.is) ∙ c.in_ok-v.ensures.answer)

pub one_type::same_underlying-returns-in-Unknown-clause-answer : goal.one_type::same_underlying-returns-in-Unknown-clause-answer
one_type::same_underlying-returns-in-Unknown-clause-answer g t c =
    both-found (g.J.Ask.headers c.args.judge.now) c.args.bounds c.args.opened (plain (g.J.Ask.tree c.args.judge.now c.args.a.now)) (g.J.Ask.tree c.args.judge.now c.args.b.now) _ (ap (form_as (g.J.Ask.tree c.underlying.new.self)) (sym c.in-Unknown.is) ∙ c.in_ok-v.ensures.answer)

-- PAIRS THAT ARE KEPT, over a judge that has gone on

pub identity::same_funcs-returns-then-bounds-eq0-clause-kept : goal.identity::same_funcs-returns-then-bounds-eq0-clause-kept
identity::same_funcs-returns-then-bounds-eq0-clause-kept g t c = on_ok c.funcs_by_form.result _ (kept_stay c.funcs_by_form.ensures.keeps c.args.work.now.kept c.requires.kept)

pub identity::same_method-returns-in-None-clause-kept : goal.identity::same_method-returns-in-None-clause-kept
identity::same_method-returns-in-None-clause-kept g t c = on_ok c.funcs_by_form.result _ (kept_stay c.funcs_by_form.ensures.keeps c.args.work.now.kept c.requires.kept)

pub within::same_behind-returns-in-None-clause-kept : goal.within::same_behind-returns-in-None-clause-kept
within::same_behind-returns-in-None-clause-kept g t c = on_ok c.types_by_form.result _ (kept_stay c.types_by_form.ensures.keeps c.args.work.now.kept c.requires.kept)

pub within::same_types-returns-then-bounds-eq0-clause-kept : goal.within::same_types-returns-then-bounds-eq0-clause-kept
within::same_types-returns-then-bounds-eq0-clause-kept g t c = on_ok c.types_by_form.result _ (kept_stay c.types_by_form.ensures.keeps c.args.work.now.kept c.requires.kept)

pub identity::same_funcs-returns-then-not-branch-clause-kept : goal.identity::same_funcs-returns-then-not-branch-clause-kept
identity::same_funcs-returns-then-not-branch-clause-kept g t c = kept_stay c.outline_funcs.ensures.keeps c.args.work.now.kept c.requires.kept

pub identity::same_methods_all-returns-then-not-branch-clause-kept : goal.identity::same_methods_all-returns-then-not-branch-clause-kept
identity::same_methods_all-returns-then-not-branch-clause-kept g t c = kept_stay c.methods_fit.ensures.keeps c.args.work.now.kept c.requires.kept

pub interfaces::same_interfaces-returns-then-branch-clause-kept : goal.interfaces::same_interfaces-returns-then-branch-clause-kept
interfaces::same_interfaces-returns-then-branch-clause-kept g t c = kept_stay c.alike_layers.ensures.keeps c.args.work.now.kept c.requires.kept

pub interfaces::same_unlike-returns-then-branch-clause-kept : goal.interfaces::same_unlike-returns-then-branch-clause-kept
interfaces::same_unlike-returns-then-branch-clause-kept g t c = kept_stay c.is_kept.ensures.keeps c.args.work.now.kept c.requires.kept

pub within::same_types-returns-then-not-branch-clause-kept : goal.within::same_types-returns-then-not-branch-clause-kept
within::same_types-returns-then-not-branch-clause-kept g t c = kept_stay c.outline.ensures.keeps c.args.work.now.kept c.requires.kept

pub within::has_underlying-returns-in-Absent-clause-kept : goal.within::has_underlying-returns-in-Absent-clause-kept
within::has_underlying-returns-in-Absent-clause-kept g t c = kept_stay c.in_ok-u.ensures.keeps c.args.work.now.kept c.requires.kept

pub within::has_underlying-returns-in-Unknown-clause-kept : goal.within::has_underlying-returns-in-Unknown-clause-kept
within::has_underlying-returns-in-Unknown-clause-kept g t c = kept_stay c.in_ok-u.ensures.keeps c.args.work.now.kept c.requires.kept

pub one_type::same_term-returns-then-branch-clause-kept : goal.one_type::same_term-returns-then-branch-clause-kept
one_type::same_term-returns-then-branch-clause-kept g t c = kept_stay c.alike.ensures.keeps c.args.work.now.kept c.requires.kept

pub one_type::same_declared-returns-else-branch-clause-kept : goal.one_type::same_declared-returns-else-branch-clause-kept
one_type::same_declared-returns-else-branch-clause-kept g t c = kept_stay c.is_declared.ensures.keeps c.args.work.now.kept c.requires.kept

pub one_type::same_underlying-returns-in-Absent-clause-kept : goal.one_type::same_underlying-returns-in-Absent-clause-kept
one_type::same_underlying-returns-in-Absent-clause-kept g t c = kept_stay c.in_ok-v.ensures.keeps c.args.work.now.kept c.requires.kept

pub one_type::same_underlying-returns-in-Unknown-clause-kept : goal.one_type::same_underlying-returns-in-Unknown-clause-kept
one_type::same_underlying-returns-in-Unknown-clause-kept g t c = kept_stay c.in_ok-v.ensures.keeps c.args.work.now.kept c.requires.kept

pub identity::same_funcs-same_pairs-requires : goal.identity::same_funcs-same_pairs-requires
identity::same_funcs-same_pairs-requires g t c κs lives =
    (omega (arith, c.decreases, c.if-bounds-eq0.false), (lives, (c.outline_funcs.ensures.pairs_own, kept_stay c.outline_funcs.ensures.keeps c.args.work.now.kept c.requires.kept)))

pub within::same_types-same_pairs-requires : goal.within::same_types-same_pairs-requires
within::same_types-same_pairs-requires g t c κs lives =
    (omega (arith, c.decreases, c.if-bounds-eq0.false), (lives, (c.outline.ensures.pairs_own, kept_stay c.outline.ensures.keeps c.args.work.now.kept c.requires.kept)))

pub within::has_underlying-same_behind-requires : goal.within::has_underlying-same_behind-requires
within::has_underlying-same_behind-requires g t c κs lives =
    let keeps = c.in_ok-u.ensures.keeps in
    (omega (arith, c.decreases), (lives, (subst (IsOwnForm (g.J.Ask.is_type c.underlying.new.self)) c.in-Is.is c.in_ok-u.ensures.own, (keeps.kept.types c.args.b.now c.requires.b_own, kept_stay keeps c.args.work.now.kept c.requires.kept))))

pub one_type::same_underlying-has_underlying-requires : goal.one_type::same_underlying-has_underlying-requires
one_type::same_underlying-has_underlying-requires g t c κs lives =
    let keeps = c.in_ok-v.ensures.keeps in
    (omega (arith, c.decreases), (lives, (keeps.kept.types c.args.a.now c.requires.a_own, (subst (IsOwnForm (g.J.Ask.is_type c.underlying.new.self)) c.in-Is.is c.in_ok-v.ensures.own, kept_stay keeps c.args.work.now.kept c.requires.kept))))

pub one_type::same_term-same_apart-requires : goal.one_type::same_term-same_apart-requires
one_type::same_term-same_apart-requires g t c κs lives =
    let keeps = c.alike.ensures.keeps in
    (omega (arith, c.decreases), (lives, (keeps.kept.types c.args.a.now.ty c.requires.a_own, (keeps.kept.types c.args.b.now.ty c.requires.b_own, kept_stay keeps c.args.work.now.kept c.requires.kept))))

pub one_type::same_declared-same_underlying-requires : goal.one_type::same_declared-same_underlying-requires
one_type::same_declared-same_underlying-requires g t c κs lives =
    let keeps = c.is_declared.ensures.keeps in
    (omega (arith, c.decreases), (lives, (keeps.kept.types c.args.a.now c.requires.a_own, (keeps.kept.types c.args.b.now c.requires.b_own, kept_stay keeps c.args.work.now.kept c.requires.kept))))
