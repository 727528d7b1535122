use Rattle.std.proofs.lemmas.Result.{IfOk-weaker}
use Rattle.go_same.proofs.StepLemmas.{error_owned, error_viewed, ok-both}
use Rattle.go_same.proofs.terms.error_types.Goals as goal

pub returns-clause-made : goal.returns-clause-made
returns-clause-made g c = IfOk-weaker c.error_method.result _ _ (λ s both. error_viewed (g.J.Ask.tree c.text_type.new.judge) c.in_ok-text.text c.in_ok-text.ensures.same s both.0 both.1.0 both.1.1) (ok-both c.error_method.result _ _ c.error_method.ensures.methods (ok-both c.error_method.result _ _ c.error_method.ensures.unions c.error_method.ensures.comparable))

pub returns-clause-own : goal.returns-clause-own
returns-clause-own g c = IfOk-weaker c.error_method.result _ _ (λ s both. error_owned (g.J.Ask.is_type c.text_type.new.judge) c.in_ok-text.text c.in_ok-text.ensures.own s both.0 both.1) (ok-both c.error_method.result _ _ c.error_method.ensures.methods c.error_method.ensures.unions)
