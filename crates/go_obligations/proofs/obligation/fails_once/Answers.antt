use Rattle.std.proofs.Common.{sym, subst}
use Rattle.std.proofs.lemmas.Result.{IfOk-weaker, on_ok_weaker}
use Rattle.std.specs.Prelude.{IfSome}
use Rattle.go_term.specs.Types.{TypeData}
use Rattle.go_judge.specs.Headers.{Headers}
use Rattle.go_obligations.specs.Answers.{AreAnswers, IsKeyOf}
use Rattle.go_obligations.proofs.AnswerLemmas.{fails_moved}
use Rattle.go_obligations.proofs.obligation.fails_once.Goals as goal

pub fails_by-requires : goal.fails_by-requires
fails_by-requires g c =
    let keeps = c.in_ok-key.ensures.keeps in
    let o = c.args.obligation.now in
    record {
      own = keeps.kept.types o.ty c.requires.own;
      key = subst (λ (t : TypeData). IfSome c.in_ok-key.key (IsKeyOf o.demand t)) (sym (keeps.kept.trees o.ty c.requires.own)) c.in_ok-key.ensures.key;
      answers = subst (λ (h : Headers). AreAnswers h c.args.answers.now) (sym keeps.same) c.requires.answers;
    }

pub returns-clause-fails : goal.returns-clause-fails
returns-clause-fails g c =
    let keeps = c.in_ok-key.ensures.keeps in
    let o = c.args.obligation.now in
    IfOk-weaker c.fails_by.result _ _ (λ yes. fails_moved o.demand yes keeps.same (keeps.kept.trees o.ty c.requires.own)) c.fails_by.ensures.fails

pub returns-clause-answers : goal.returns-clause-answers
returns-clause-answers g c =
    on_ok_weaker c.fails_by.result (subst (λ (h : Headers). AreAnswers h c.fails_by.new.answers) c.in_ok-key.ensures.keeps.same) c.fails_by.ensures.answers
