use Rattle.std.proofs.Common.{◌≡◌, [], ◌∷◌, ◌++◌, refl, sym, subst}
use Rattle.std.proofs.lemmas.List.{append_assoc, append-nil}
use Rattle.std.proofs.lemmas.Result.{on_ok_weaker, on_err_weaker}
use Rattle.go_tree.specs.Tree.{tree_of}
use Rattle.go_parse_x.specs.Tables.Opened.{numbers, numbers_in, Rises}
use Rattle.go_parse_x.proofs.OpenedLemmas.{seen_push, numbers_push, numbers_among_push, Rises-append, Rises-below, Rises-higher}
use Rattle.go_parse_x.proofs.opened.add.Goals as goal

pub returns-in_default-clause-numbers : goal.returns-in_default-clause-numbers
returns-in_default-clause-numbers c = λ low middle next h k.
    let same : numbers c.args.opened.now.items ≡ numbers c.pop.new.self.items = simp (c.in_default.ensures.items, append-nil) refl in
    subst (λ ns. Rises low ns next) same (Rises-higher low (numbers c.args.opened.now.items) middle next (Rises-below middle (numbers_in (tree_of c.args.node)) next k) h)

pub returns-clause-numbers : goal.returns-clause-numbers
returns-clause-numbers c = on_ok_weaker c.push_part-added.result (λ (pushed : c.push_part-added.new.parts.items ≡ c.in-Some.inner.parts.items ++ c.args.node ∷ []). λ low middle next h k.
    let more : numbers c.push_reserved.new.self.items ≡ numbers c.args.opened.now.items ++ numbers_in (tree_of c.args.node) = simp (c.in-Some.ensures.items, c.push_reserved.ensures.items, pushed, numbers_push, numbers_among_push, append_assoc) refl in
    subst (λ ns. Rises low ns next) (sym more) (Rises-append low middle next (numbers c.args.opened.now.items) (numbers_in (tree_of c.args.node)) h k)) c.push_part-added.ensures.pushed

pub returns-clause-kept : goal.returns-clause-kept
returns-clause-kept c = on_err_weaker c.push_part-added.result (λ (same : c.push_part-added.new.parts.items ≡ c.in-Some.inner.parts.items). (
  simp (c.in-Some.ensures.items, c.push_reserved.ensures.items, same, seen_push) refl,
  simp (c.in-Some.ensures.items, c.push_reserved.ensures.items, same, numbers_push) refl,
)) c.push_part-added.ensures.kept
