-- Whether a type may be embedded, by what its underlying type comes to.
use Rattle.std.specs.Prelude.{Bool, true, false, Option}
use Rattle.std.specs.Option.{option_map_or}
use Rattle.go_term.specs.Types.{TypeData}
use Rattle.go_model.specs.Obligations.Embedding.{embeds_as}
use Rattle.go_judge.specs.Quests.{Asked, Decided, Lacks}
use Rattle.go_judge.specs.declared.outcome.Answer.{Answer}
use Rattle.go_judge.specs.declared.outcome.Answer.TheVariants.{Yes, No}

-- an answer by a test
abbrev pub answer_of : Bool → Answer
answer_of true = Yes
answer_of false = No

-- behind a `*` or not
abbrev pub embeds_asked : Bool → Asked (Option TypeData) → Asked Bool
embeds_asked starred (Decided u) = Decided (option_map_or (embeds_as starred) u true)
embeds_asked starred (Lacks d) = Lacks d
