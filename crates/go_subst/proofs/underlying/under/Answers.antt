use Rattle.std.proofs.Common.{◌∙◌}
use Rattle.std.proofs.lemmas.Result.{err_from_is_err_and}
use Rattle.go_term.specs.View.{type_of}
use Rattle.go_judge.proofs.OwnLemmas.{types_then}
use Rattle.go_subst.specs.Chains.{path_of}
use Rattle.go_subst.proofs.ChainLemmas.{ends, fails, goes_on}
use Rattle.go_subst.proofs.underlying.under.Goals as goal

pub returns-in_err-reached-clause-cause : goal.returns-in_err-reached-clause-cause
returns-in_err-reached-clause-cause g c =
    let p = err_from_is_err_and c.from_residual-in_err-reached.result c.from_residual-in_err-reached.ensures.1 in
    let caused = fails (g.A.Ask.headers c.args.ask.now) (g.A.Ask.headers c.loop-turns.ask) c.loop-turns.invariant.stays.same (type_of c.args.t.now) c.loop-turns._turns (path_of c.loop-turns.path) (path_of c.next_turn.new.path) (type_of c.loop-turns.here)
    c.loop-turns.invariant.chain c.loop-turns-test.true c.in_err-reached.field-0.0 c.in_err-reached.ensures.cause
    in
    rw (p.1, p.2) caused

pub returns-in-End-clause-answer : goal.returns-in-End-clause-answer
returns-in-End-clause-answer g c =
    ends (g.A.Ask.headers c.args.ask.now) (g.A.Ask.headers c.loop-turns.ask) c.loop-turns.invariant.stays.same (type_of c.args.t.now) c.loop-turns._turns (path_of c.loop-turns.path) (path_of c.next_turn.new.path) (type_of c.loop-turns.here)
    c.loop-turns.invariant.chain c.loop-turns-test.true c.in_ok-reached.field-0 c.in-End.reached c.in-End.is c.in_ok-reached.ensures.turn

pub loop-turns-preserved : goal.loop-turns-preserved
loop-turns-preserved g c = record {
  chain = goes_on (g.A.Ask.headers c.args.ask.now) (g.A.Ask.headers c.loop-turns.ask) c.loop-turns.invariant.stays.same (type_of c.args.t.now) c.loop-turns._turns (path_of c.loop-turns.path) (path_of c.next_turn.new.path) (type_of c.loop-turns.here)
      c.loop-turns.invariant.chain c.in_ok-reached.field-0 c.in-On.next c.in-On.is c.in_ok-reached.ensures.turn;
  stays = record {
    same = c.in_ok-reached.ensures.same ∙ c.loop-turns.invariant.stays.same;
    named = c.in_ok-reached.ensures.names ∙ c.loop-turns.invariant.stays.named;
    walked = c.in_ok-reached.ensures.outcomes ∙ c.loop-turns.invariant.stays.walked;
    memory = c.in_ok-reached.ensures.spent ∙ c.loop-turns.invariant.stays.memory;
    around = c.in_ok-reached.ensures.world ∙ c.loop-turns.invariant.stays.around;
    kept = types_then c.loop-turns.invariant.stays.kept c.in_ok-reached.ensures.types;
  };
}
