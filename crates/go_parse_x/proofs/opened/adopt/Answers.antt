use Rattle.std.proofs.Common.{refl}
use Rattle.std.proofs.lemmas.List.{append_assoc, append-nil}
use Rattle.go_parse_x.proofs.OpenedLemmas.{seen_push, seen_first, start_of-unnumbered, numbers_push, numbers_append, numbers_among_push}
use Rattle.go_parse_x.proofs.opened.adopt.Goals as goal

pub returns-in_default-pop-2-clause-numbers : goal.returns-in_default-pop-2-clause-numbers
returns-in_default-pop-2-clause-numbers c = simp (c.in-Some.ensures.items, c.in-Some-pop.ensures.items, c.in_default-pop-2.ensures.items, c.in_ok-push-3.ensures.items, c.in_ok-push-2.ensures.items, numbers_push, append-nil) refl

pub returns-clause-nodes : goal.returns-clause-nodes
returns-clause-nodes c = simp (c.in-Some.ensures.items, c.in-Some-pop.ensures.items, c.in-Some-pop-2.ensures.items, c.in_ok-push-5.ensures.items, c.in_ok-push-4.ensures.items, c.in_ok-insert.ensures.items, c.start-start.ensures, seen_push, seen_first, start_of-unnumbered) refl

pub returns-clause-numbers : goal.returns-clause-numbers
returns-clause-numbers c = simp (c.in-Some.ensures.items, c.in-Some-pop.ensures.items, c.in-Some-pop-2.ensures.items, c.in_ok-push-5.ensures.items, c.in_ok-push-4.ensures.items, c.in_ok-insert.ensures.items, numbers_append, numbers_among_push, append_assoc, append-nil) refl
