use Rattle.std.proofs.Common.{◌≡◌, Bool, true, List, map, sym, ap, subst, ◌∙◌}
use Rattle.std.proofs.lemmas.Result.{IfOk-weaker}
use Rattle.std.specs.List.{list_any}
use Rattle.std.specs.Prelude.{◌↔◌}
use Rattle.go_term.specs.declared.term.Term.{Term}
use Rattle.go_model.specs.Obligations.Constraints.{adds_terms}
use Rattle.go_obligations.specs.ConstraintParts.{IsGeneral}
use Rattle.go_obligations.proofs.ConstraintLemmas.{general_by_parts}
use Rattle.go_obligations.proofs.constraint.is_general_by.Goals as goal

pub returns-clause-general : goal.returns-clause-general
returns-clause-general g c =
    let headers = g.F.Ask.headers c.args.judge.now in
    let u = g.F.Ask.tree c.args.judge.now c.args.u in
    let tree = g.F.Ask.tree c.embedded_types.new.judge in
    let general = general_by_parts headers u (map tree c.in_ok-found.found.items) (c.requires.interface ∙ c.if-not-interface.false) c.in_ok-found.ensures.exact in
    let same = ap (λ (ts : List Term). list_any adds_terms (map tree ts)) c.deref.ensures.value in
    IfOk-weaker c.any_adds_terms.result _ _ (λ answer e. subst (λ (b : Bool). (b ≡ true) ↔ IsGeneral headers u) (sym (e ∙ same)) general) c.any_adds_terms.ensures.any
