use Rattle.std.proofs.Common.{List, subst}
use Rattle.std.specs.Prelude.{◌≡◌, ◌↔◌, true}
use Rattle.std.proofs.lemmas.Result.{IfOk-weaker}
use Rattle.go_judge.specs.Headers.{Headers}
use Rattle.go_obligations.specs.Conflicts.{AreInConflict, differ}
use Rattle.go_obligations.specs.declared.methods.Method.{Method}
use Rattle.go_obligations.proofs.ConflictLemmas.{gets_two}
use Rattle.go_obligations.proofs.conflicts.gets_two.Goals as goal

pub returns-clause-two : goal.returns-clause-two
returns-clause-two g c =
    let judge = c.args.judge.now in
    let own = g.J.Ask.is_type c.methods_got.new.judge in
    let tree = g.J.Ask.tree c.methods_got.new.judge in
    let headers = g.J.Ask.headers judge in
    let made = c.in_ok-methods.ensures in
    let ms = c.in_ok-methods.methods.items in
    let two = gets_two own tree headers (g.J.Ask.tree judge c.args.t.now) ms made.own made.exact in
    IfOk-weaker c.are_in_conflict.result _ _
    (λ r h.
    (let here = subst (λ (hs : Headers). (r ≡ true) ↔ AreInConflict (differ hs tree) ms) made.keeps.same
    (subst (λ (xs : List Method). (r ≡ true) ↔ AreInConflict (differ (g.J.Ask.headers c.methods_got.new.judge) tree) xs) c.deref.ensures.value h) in
    (λ e. two.0 (here.0 e), λ gets. here.1 (two.1 gets))))
    c.are_in_conflict.ensures.conflict
