use Rattle.std.proofs.Common.{refl}
use Rattle.std.proofs.lemmas.List.{append_assoc, append-nil}
use Rattle.go_parse_x.proofs.OpenedLemmas.{seen_push, start_of-unnumbered, numbers_push, numbers_append, numbers_among_push}
use Rattle.go_parse_x.proofs.opened.reopen.Goals as goal

pub returns-in_default-pop-clause-numbers : goal.returns-in_default-pop-clause-numbers
returns-in_default-pop-clause-numbers c = simp (c.in-Some.ensures.items, c.in_default-pop.ensures.items, c.in_ok-push.ensures.items, numbers_push, append-nil) refl

pub returns-clause-nodes : goal.returns-clause-nodes
returns-clause-nodes c = simp (c.in-Some.ensures.items, c.in-Some-pop.ensures.items, c.in_ok-push-3.ensures.items, c.in_ok-push-2.ensures.items, c.in_ok-push_part.ensures.pushed, c.new-parts.ensures.items, c.start-start.ensures, seen_push, start_of-unnumbered) refl

pub returns-clause-numbers : goal.returns-clause-numbers
returns-clause-numbers c = simp (c.in-Some.ensures.items, c.in-Some-pop.ensures.items, c.in_ok-push-3.ensures.items, c.in_ok-push-2.ensures.items, c.in_ok-push_part.ensures.pushed, c.new-parts.ensures.items, numbers_append, numbers_among_push, append_assoc, append-nil) refl
