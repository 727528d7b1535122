use Rattle.std.proofs.Common.{Contains, map, subst}
use Rattle.std.specs.Prelude.{◌↔◌}
use Rattle.std.proofs.lemmas.Result.{IfOk-weaker}
use Rattle.go_term.specs.Types.{TypeData}
use Rattle.go_model.specs.Obligations.Methods.{Gets}
use Rattle.go_judge.specs.Headers.{Headers}
use Rattle.go_obligations.specs.Methods.{method_view}
use Rattle.go_obligations.proofs.methods.methods_got.Goals as goal

pub returns-clause-exact : goal.returns-clause-exact
returns-clause-exact g c =
    let made = c.in_ok-copy.ensures in
    IfOk-weaker c.methods_of.result _ _
    (λ methods exact m.
    (let has = Contains (map (method_view (g.F.Ask.tree c.methods_of.new.judge)) methods.items) m in
    subst (λ (h : Headers). has ↔ Gets h (g.F.Ask.tree c.args.judge.now c.args.t.now) m) made.keeps.same
    (subst (λ (t : TypeData). has ↔ Gets (g.F.Ask.headers c.copied.new.judge) t m) made.same (exact m))))
    c.methods_of.ensures.exact
