use Rattle.std.proofs.Common.{◌∙◌, ◌∷◌, [], ap}
use Rattle.go_base.specs.declared.rule.Broken.{Broken}
use Rattle.go_load.proofs.ReadingLemmas.{told_missing}
use Rattle.go_load.proofs.module_text.missing.Goals as goal

pub returns-clause-broken : goal.returns-clause-broken
returns-clause-broken c =
    told_missing c.new-2.result c.in_ok-vec.field-0.items c.ordered-list.result.items c.deref.result.now c.told.result (c.new-2.ensures ∙ c.new.ensures.items) (c.in_ok-vec.ensures.items ∙ ap (λ (b : Broken). b ∷ []) c.broken_at.ensures) c.ordered-list.ensures c.deref.ensures.value c.told.ensures
