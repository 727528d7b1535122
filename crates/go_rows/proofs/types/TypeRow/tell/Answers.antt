use Rattle.std.proofs.Common.{sym, ap, ◌∙◌}
use Rattle.std.specs.Option.{option_map}
use Rattle.go_judge.specs.Records.{header_view}
use Rattle.go_judge.specs.Headers.{Headers}
use Rattle.go_judge.proofs.OwnDataLemmas.{header_any}
use Rattle.go_rows.proofs.types.TypeRow.tell.Goals as goal

pub learn-requires-clause-vacant : goal.learn-requires-clause-vacant
learn-requires-clause-vacant c =
    ap (λ (h : Headers). h c.in_ok-d.d.0) c.in_ok-ask.ensures.same
    ∙ sym (sym (ap (option_map header_view) c.in-None-2.is) ∙ c.in_ok-ask.ensures.answer)

pub learn-requires-clause-own : goal.learn-requires-clause-own
learn-requires-clause-own c = header_any c.if-is_func.header
