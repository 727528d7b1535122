use Rattle.std.proofs.Common.{refl}
use Rattle.std.proofs.lemmas.List.{append-nil}
use Rattle.go_parse_x.proofs.OpenedLemmas.{numbers_push}
use Rattle.go_parse_x.proofs.opened.open.Goals as goal

pub returns-clause-numbers : goal.returns-clause-numbers
returns-clause-numbers c = simp (c.in_ok-push.ensures.items, c.new.ensures.items, numbers_push, append-nil) refl
