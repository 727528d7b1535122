use Rattle.std.proofs.Common.{sym, ⊎_elim}
use Rattle.go_parse_x.proofs.TurnLemmas.{sides_push}
use Rattle.go_parse_x.proofs.EndLemmas.{call_ends, nothing_ends, seq_ends, or_ends, many_ends, when_ends}
use Rattle.go_parse_x.proofs.finish.end.Goals as goal

pub returns-in_ok-push-in-Call-clause-ending : goal.returns-in_ok-push-in-Call-clause-ending
returns-in_ok-push-in-Call-clause-ending c =
    let is = rw c.in-Call.is at c.shape_at.ensures.side in
    rw (c.in_ok-push-in-Call.ensures.items, sides_push, c.start.ensures, sym is) (call_ends _ _ _ _ c.in-Call.n)

pub returns-in-Nothing-clause-ending : goal.returns-in-Nothing-clause-ending
returns-in-Nothing-clause-ending c = ⊎_elim
    (λ h. let is = rw h at c.shape_at.ensures.side in rw (sym is) (nothing_ends _ _ _ _))
    (λ h. let is = rw h.2 at c.shape_at.ensures.side in rw (sym is) (many_ends _ _ _ _ _ (rw (sym is) at c.requires)))
    c.in-Nothing.is

pub returns-in_ok-series-in-Seq-clause-ending : goal.returns-in_ok-series-in-Seq-clause-ending
returns-in_ok-series-in-Seq-clause-ending c =
    let is = rw c.in-Seq.is at c.shape_at.ensures.side in
    rw (c.in_ok-series-in-Seq.ensures, sym is) (seq_ends _ _ _ _ _ _)

pub returns-in_ok-either-in-Or-clause-ending : goal.returns-in_ok-either-in-Or-clause-ending
returns-in_ok-either-in-Or-clause-ending c =
    let is = rw c.in-Or.is at c.shape_at.ensures.side in
    rw (c.in_ok-either-in-Or.ensures, sym is) (or_ends _ _ _ _ _ _ (rw (sym is) at c.requires))

pub returns-in_ok-push-in-When-clause-ending : goal.returns-in_ok-push-in-When-clause-ending
returns-in_ok-push-in-When-clause-ending c =
    let is = rw c.in-When.is at c.shape_at.ensures.side in
    rw (c.in_ok-push-in-When.ensures.items, sides_push, sym is) (when_ends _ _ _ _ _ _ _)
