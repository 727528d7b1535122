use Rattle.std.proofs.Common.{◌≡◌, Some, cond, ap, sym, ◌∙◌}
use Rattle.std.specs.Prelude.{slice_get}
use Rattle.std.proofs.lemmas.Option.{slice_get-get_or}
use Rattle.go_obligations.specs.Firsts.{first_by, is_declared_before, same_key}
use Rattle.go_obligations.proofs.ConflictLemmas.{first_added, first_kept}
use Rattle.go_obligations.proofs.firsts.add_method.Goals as goal

pub returns-in_ok-insert : goal.returns-in_ok-insert
returns-in_ok-insert c =
    let m = c.index-methods-place.result in
    let at : slice_get c.args.methods.now c.args.place ≡ Some m = slice_get-get_or c.args.methods.now c.args.place m c.requires.within ∙ ap Some (sym c.index-methods-place.is) in
    let key = c.in_ok-key.ensures in
    let found = c.place_by.ensures ∙ ap (first_by c.args.firsts.now.entries) key in
    first_added c.args.methods.now c.args.place m at c.args.firsts.now.entries c.insert.new.self.entries
    (λ q. c.in_ok-insert.ensures.updates.0 q ∙ ap (λ k. cond (same_key k q) (Some c.args.place) (first_by c.args.firsts.now.entries q)) key)
    (ap (is_declared_before c.args.methods.now m) (sym found) ∙ sym (c.is_declared_before.ensures m at) ∙ c.if-is_declared_before.true)
    c.requires.before

pub returns-else-is_declared_before : goal.returns-else-is_declared_before
returns-else-is_declared_before c =
    let m = c.index-methods-place.result in
    let at : slice_get c.args.methods.now c.args.place ≡ Some m = slice_get-get_or c.args.methods.now c.args.place m c.requires.within ∙ ap Some (sym c.index-methods-place.is) in
    let found = c.place_by.ensures ∙ ap (first_by c.args.firsts.now.entries) c.in_ok-key.ensures in
    first_kept c.args.methods.now c.args.place m at c.args.firsts.now.entries
    (ap (is_declared_before c.args.methods.now m) (sym found) ∙ sym (c.is_declared_before.ensures m at) ∙ c.if-is_declared_before.false)
    c.requires.before
