use Rattle.std.proofs.Common.{◌≡◌, ◌+◌, ◌-◌, ◌<◌, ◌^◌, true, false, Some, ap, sym, ◌∙◌, arith}
use Rattle.std.proofs.lemmas.Result.{IfOk-weaker}
use Rattle.std.specs.Vec.Iter.{into_iter_items, into_iter_len}
use Rattle.go_judge.specs.Types.TypeSets as sets
use Rattle.go_judge.specs.Quests.{Decided, run}
use Rattle.go_same.specs.Collect.{kind_set, opening_within}
use Rattle.go_same.proofs.CollectLemmas.{both_owned, elements_unset, tilde_alone, union_unset}
use Rattle.go_same.proofs.KeepLemmas.{found_types, keeps_then}
use Rattle.go_same.proofs.StepLemmas.{after_moved, closed_answer, elem_here, elem_shallow, elems_end, elems_left, elems_shallow, elems_step, kind_moved, named_moved, opened_answer, plain_answer, raised_owned, raised_viewed, some_types, term_owned, term_viewed, terms_left, terms_shallow, terms_step, tilde_answer}
use Rattle.go_same.proofs.UnderLemmas.{form-shallow}
use Rattle.go_same.proofs.WithinLemmas.{found-raisable}
use Rattle.go_same.proofs.collect.+collect.Goals as goal

pub elements_set-element_set-requires : goal.elements_set-element_set-requires
elements_set-element_set-requires g t c = λ κs lives.
    let inv = c.loop-e.invariant in
    let less = elem_shallow inv.keeps.kept _ _ c.in-Some.e c.in-Some.ensures.steps.0 inv.own_left _ inv.shallow in
    (omega (arith, less, c.decreases), (lives, elem_here inv.keeps.kept _ _ c.in-Some.e c.in-Some.ensures.steps.0 inv.own_left))

pub elements_set-loop-e-preserved : goal.elements_set-loop-e-preserved
elements_set-loop-e-preserved g t c =
    let inv = c.loop-e.invariant in
    let here = c.in_ok-one.ensures.keeps in
    record {
      keeps = keeps_then inv.keeps here;
      own_left = elems_left inv.keeps.kept _ _ c.in-Some.e c.in-Some.ensures.steps.0 inv.own_left;
      shallow = elems_shallow inv.keeps.kept _ _ c.in-Some.e c.in-Some.ensures.steps.0 inv.own_left _ inv.shallow;
      own_all = both_owned (g.J.Ask.is_type c.element_set.new.judge) c.loop-e.all c.in_ok-one.one c.in_ok-all.all c.in_ok-all.ensures (found_types here.kept c.loop-e.all inv.own_all) c.in_ok-one.ensures.own;
      left = elems_step inv.keeps.kept _ _ c.in-Some.e c.in-Some.ensures.steps.0 inv.own_left here.kept (g.J.Ask.headers c.args.judge.now) (g.J.Ask.headers c.loop-e.judge) inv.keeps.same (opening_within c.args.left) c.loop-e.all c.in_ok-one.one c.in_ok-all.all c.in_ok-all.ensures inv.own_all c.in_ok-one.ensures.answer _ inv.left;
    }

pub elements_set-returns-then-not-is_set-clause-answer : goal.elements_set-returns-then-not-is_set-clause-answer
elements_set-returns-then-not-is_set-clause-answer g t c =
    let inv = c.loop-e.invariant in
    let here = c.in_ok-one.ensures.keeps in
    elements_unset (g.J.Ask.tree c.element_set.new.judge) c.in_ok-all.all (sym c.is_set.ensures ∙ c.if-not-is_set.true) _ _
    (elems_step inv.keeps.kept _ _ c.in-Some.e c.in-Some.ensures.steps.0 inv.own_left here.kept (g.J.Ask.headers c.args.judge.now) (g.J.Ask.headers c.loop-e.judge) inv.keeps.same (opening_within c.args.left) c.loop-e.all c.in_ok-one.one c.in_ok-all.all c.in_ok-all.ensures inv.own_all c.in_ok-one.ensures.answer _ inv.left)

pub elements_set-returns-clause-answer : goal.elements_set-returns-clause-answer
elements_set-returns-clause-answer g t c =
    elems_end (g.J.Ask.headers c.args.judge.now) (opening_within c.args.left) (g.J.Ask.tree c.args.judge.now) (into_iter_items c.loop-e.e-iterator) (into_iter_len c.loop-e.e-iterator) c.loop-e.e-iterator.rest.ok.0 c.in-None.ensures.steps.0 _ _ c.loop-e.invariant.left

pub named_set-set_by_form-requires : goal.named_set-set_by_form-requires
named_set-set_by_form-requires g t c = λ κs lives.
    let kept = c.in_ok-form.ensures.keeps.kept in (
      omega (arith, c.decreases),
      (
        lives,
        (
          kept.types c.args.t c.requires.own,
          (
            c.in_ok-form.ensures.own,
            form-shallow (g.J.Ask.tree c.underlying.new.self) (g.J.Ask.headers c.args.judge.now) (g.J.Ask.tree c.args.judge.now c.args.t) c.requires.name c.in_ok-form.form c.in_ok-form.ensures.answer,
          ),
        ),
      ),
    )

pub named_set-returns-clause-answer : goal.named_set-returns-clause-answer
named_set-returns-clause-answer g t c =
    let keeps = c.in_ok-form.ensures.keeps in
    IfOk-weaker c.set_by_form.result _ _ (λ found h. h ∙ named_moved (g.J.Ask.headers c.args.judge.now) (g.J.Ask.headers c.underlying.new.self) (opening_within c.args.left) (g.J.Ask.tree c.args.judge.now c.args.t) (g.J.Ask.tree c.underlying.new.self c.args.t) _ keeps.same (keeps.kept.trees c.args.t c.requires.own) c.in_ok-form.ensures.answer) c.set_by_form.ensures.answer

pub set_of-returns-clause-answer : goal.set_of-returns-clause-answer
set_of-returns-clause-answer g t c =
    let keeps = c.in_ok-shape.ensures.keeps in
    IfOk-weaker c.set_of_kind.result _ _ (λ found h. h ∙ kind_moved (g.J.Ask.headers c.args.judge.now) (g.J.Ask.headers c.see.new.self) c.args.left (g.J.Ask.tree c.see.new.self) (g.J.Ask.tree c.args.judge.now c.args.t) (g.J.Ask.tree c.see.new.self c.args.t) c.in_ok-shape.shape c.kind_of.result keeps.same (keeps.kept.trees c.args.t c.requires) c.in_ok-shape.ensures.shape c.kind_of.ensures) c.set_of_kind.ensures.answer

pub set_of_kind-returns-in_ok-one_term-in-Other-clause-answer : goal.set_of_kind-returns-in_ok-one_term-in-Other-clause-answer
set_of_kind-returns-in_ok-one_term-in-Other-clause-answer g t c =
    let made = c.in_ok-one_term-in-Other in
    ap (λ s. Decided (Some s)) (term_viewed (g.J.Ask.tree c.args.judge.now) made.field-0 false c.args.t made.ensures.methods made.ensures.unions made.ensures.comparable)
    ∙ ap (λ k. run (g.J.Ask.headers c.args.judge.now) (kind_set (opening_within c.args.left) (g.J.Ask.tree c.args.judge.now) (sets.plain (g.J.Ask.tree c.args.judge.now c.args.t)) k)) (sym c.in-Other.is)

pub set_of_kind-returns-in_ok-one_term-in-Other-clause-own : goal.set_of_kind-returns-in_ok-one_term-in-Other-clause-own
set_of_kind-returns-in_ok-one_term-in-Other-clause-own g t c =
    let made = c.in_ok-one_term-in-Other in
    term_owned (g.J.Ask.is_type c.args.judge.now) made.field-0 false c.args.t made.ensures.methods made.ensures.unions c.requires.own_type

pub set_of_kind-returns-in-Literal-clause-answer : goal.set_of_kind-returns-in-Literal-clause-answer
set_of_kind-returns-in-Literal-clause-answer g t c =
    IfOk-weaker c.elements_set.result _ _ (λ found h. h ∙ ap (λ k. run (g.J.Ask.headers c.args.judge.now) (kind_set (opening_within c.args.left) (g.J.Ask.tree c.args.judge.now) (sets.plain (g.J.Ask.tree c.args.judge.now c.args.t)) k)) (sym c.in-Literal.is)) c.elements_set.ensures.answer

pub set_by_kind-returns-then-not-interface-clause-answer : goal.set_by_kind-returns-then-not-interface-clause-answer
set_by_kind-returns-then-not-interface-clause-answer g t c =
    closed_answer (g.J.Ask.headers c.args.judge.now) (opening_within c.args.left) (g.J.Ask.tree c.args.judge.now) c.args.t (g.J.Ask.tree c.args.judge.now c.args.u) c.in_ok-one_term.field-0 (c.requires.kind ∙ c.if-not-interface.true)
    (term_viewed (g.J.Ask.tree c.args.judge.now) c.in_ok-one_term.field-0 false c.args.t c.in_ok-one_term.ensures.methods c.in_ok-one_term.ensures.unions c.in_ok-one_term.ensures.comparable)

pub set_by_kind-returns-then-not-interface-clause-own : goal.set_by_kind-returns-then-not-interface-clause-own
set_by_kind-returns-then-not-interface-clause-own g t c =
    term_owned (g.J.Ask.is_type c.args.judge.now) c.in_ok-one_term.field-0 false c.args.t c.in_ok-one_term.ensures.methods c.in_ok-one_term.ensures.unions c.requires.own

pub set_by_kind-raised_found-requires : goal.set_by_kind-raised_found-requires
set_by_kind-raised_found-requires g t c =
    let small : (c.args.left - 1) + 1 < 2 ^ 32 = omega arith in
    found-raisable (g.J.Ask.tree c.set_of.new.judge) (c.args.left - 1) small (g.J.Ask.headers c.args.judge.now) (sets.plain (g.J.Ask.tree c.args.judge.now c.args.u)) c.in_ok-found.found c.in_ok-found.ensures.answer

pub set_by_kind-returns-clause-answer : goal.set_by_kind-returns-clause-answer
set_by_kind-returns-clause-answer g t c =
    opened_answer (g.J.Ask.headers c.args.judge.now) c.args.left (sets.plain (g.J.Ask.tree c.args.judge.now c.args.t)) (g.J.Ask.tree c.args.judge.now c.args.u) _ _ (c.requires.kind ∙ c.if-not-interface.false) (λ (none : c.args.left ≡ 0). omega arith) c.in_ok-found.ensures.answer
    (raised_viewed (g.J.Ask.tree c.set_of.new.judge) c.in_ok-found.found c.raised_found.result c.raised_found.ensures)

pub set_by_kind-returns-clause-own : goal.set_by_kind-returns-clause-own
set_by_kind-returns-clause-own g t c = raised_owned (g.J.Ask.is_type c.set_of.new.judge) c.in_ok-found.found c.raised_found.result c.raised_found.ensures c.in_ok-found.ensures.own

pub term_set-returns-then-term-clause-answer : goal.term_set-returns-then-term-clause-answer
term_set-returns-then-term-clause-answer g t c =
    IfOk-weaker c.tilde_set.result _ _ (λ found h. h ∙ tilde_answer (g.J.Ask.headers c.args.judge.now) (opening_within c.args.left) (g.J.Ask.tree c.args.judge.now) c.args.term c.if-term.true) c.tilde_set.ensures.answer

pub term_set-returns-else-term-clause-answer : goal.term_set-returns-else-term-clause-answer
term_set-returns-else-term-clause-answer g t c =
    IfOk-weaker c.set_of.result _ _ (λ found h. h ∙ plain_answer (g.J.Ask.headers c.args.judge.now) c.args.left (g.J.Ask.tree c.args.judge.now) c.args.term c.if-term.false) c.set_of.ensures.answer

pub tilde_set_by-returns-in_ok-one_term-clause-answer : goal.tilde_set_by-returns-in_ok-one_term-clause-answer
tilde_set_by-returns-in_ok-one_term-clause-answer g t c =
    let made = c.in_ok-one_term in
    ap (λ s. Decided (Some s)) (term_viewed (g.J.Ask.tree c.args.judge.now) made.field-0 true c.args.t made.ensures.methods made.ensures.unions made.ensures.comparable)
    ∙ ap (run (g.J.Ask.headers c.args.judge.now)) (tilde_alone (opening_within c.args.left) (g.J.Ask.tree c.args.judge.now c.args.t) (c.requires.kind ∙ c.if-param.false))

pub tilde_set_by-returns-in_ok-one_term-clause-own : goal.tilde_set_by-returns-in_ok-one_term-clause-own
tilde_set_by-returns-in_ok-one_term-clause-own g t c =
    let made = c.in_ok-one_term in
    term_owned (g.J.Ask.is_type c.args.judge.now) made.field-0 true c.args.t made.ensures.methods made.ensures.unions c.requires.own

pub union_set-loop-u-preserved : goal.union_set-loop-u-preserved
union_set-loop-u-preserved g t c =
    let inv = c.loop-u.invariant in
    let here = c.in_ok-more.ensures.keeps in
    record {
      keeps = keeps_then inv.keeps here;
      own_left = terms_left inv.keeps.kept _ _ c.in-Some.u c.in-Some.ensures.steps.0 inv.own_left;
      shallow = terms_shallow inv.keeps.kept _ _ c.in-Some.u c.in-Some.ensures.steps.0 inv.own_left _ inv.shallow;
      own_all = c.in_ok-more.ensures.own;
      left = terms_step inv.keeps.kept _ _ c.in-Some.u c.in-Some.ensures.steps.0 inv.own_left (g.J.Ask.headers c.args.judge.now) (g.J.Ask.headers c.loop-u.judge) inv.keeps.same (opening_within c.args.left) _ _ c.in_ok-more.ensures.answer _ inv.left;
    }

pub union_set-returns-then-not-is_set-clause-answer : goal.union_set-returns-then-not-is_set-clause-answer
union_set-returns-then-not-is_set-clause-answer g t c =
    let inv = c.loop-u.invariant in
    union_unset (g.J.Ask.tree c.with_term.new.judge) (g.J.Ask.headers c.args.judge.now) (opening_within c.args.left) c.in_ok-more.more (sym c.is_set.ensures ∙ c.if-not-is_set.true) _ _
    (terms_step inv.keeps.kept _ _ c.in-Some.u c.in-Some.ensures.steps.0 inv.own_left (g.J.Ask.headers c.args.judge.now) (g.J.Ask.headers c.loop-u.judge) inv.keeps.same (opening_within c.args.left) _ _ c.in_ok-more.ensures.answer _ inv.left)

pub with_term-joined_after-requires-clause-own_before : goal.with_term-joined_after-requires-clause-own_before
with_term-joined_after-requires-clause-own_before g t c = some_types c.in_ok-one.ensures.keeps.kept c.args.before c.requires.own_before

pub with_term-returns-clause-answer : goal.with_term-returns-clause-answer
with_term-returns-clause-answer g t c =
    IfOk-weaker c.joined_after.result _ _ (λ found h. h ∙ after_moved c.in_ok-one.ensures.keeps.kept c.args.before c.requires.own_before _ _ c.in_ok-one.ensures.answer) c.joined_after.ensures.answer
