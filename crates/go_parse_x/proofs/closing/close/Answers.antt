use Rattle.std.proofs.Common.{◌≡◌, [], ◌∷◌, ◌++◌, refl, sym, subst}
use Rattle.std.proofs.lemmas.List.{append_assoc, append-nil}
use Rattle.go_parse_x.specs.Tables.Opened.{numbers, Rises}
use Rattle.go_parse_x.proofs.OpenedLemmas.{numbers_append, numbers_among_push, Rises-push}
use Rattle.go_parse_x.proofs.closing.close.Goals as goal

pub returns-clause-numbers : goal.returns-clause-numbers
returns-clause-numbers c = λ low h.
    let more : numbers c.push-2.new.self.items ≡ numbers c.args.opened.now.items ++ c.args.number.now ∷ [] = simp (c.in-Some.ensures.items, c.in-Some-pop.ensures.items, c.in_ok-push-2.ensures.items, c.in_ok-push_part.ensures.pushed, c.in_ok-node.ensures.numbers, c.in_ok-id.ensures.taken, numbers_append, numbers_among_push, append_assoc, append-nil) refl in
    subst (λ ns. Rises low ns c.next_number.new.number) (sym more) (subst (λ n. Rises low (numbers c.args.opened.now.items ++ c.args.number.now ∷ []) n) (sym c.in_ok-id.ensures.next) (Rises-push low c.args.number.now (numbers c.args.opened.now.items) h))
