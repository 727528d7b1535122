use Rattle.std.proofs.Common.{◌≡◌, subst}
use Rattle.std.proofs.lemmas.Result.{IfOk-weaker}
use Rattle.std.specs.Prelude.{IfSome}
use Rattle.go_term.specs.Types.{TypeData}
use Rattle.go_obligations.specs.Answers.{named_type, type_by}
use Rattle.go_obligations.specs.declared.answers.NamedDemand.TheVariants.{EmbeddableBehindStar}
use Rattle.go_obligations.proofs.named.name_behind_star.Goals as goal

pub returns-clause-name : goal.returns-clause-name
returns-clause-name g c =
    IfOk-weaker c.base_name.result _ _
    (λ name is. subst (λ (t : TypeData). IfSome name (λ d. t ≡ type_by EmbeddableBehindStar (named_type d))) c.in_ok-shape.ensures.shape is)
    c.base_name.ensures.name
