-- Outcomes that are read agree with those of the nodes.
use Rattle.std.proofs.Common.{◌≡◌, List, Option, ap}
use Rattle.std.specs.Prelude.{Contains, unwrap_or}
use Rattle.go_tree.specs.Tree.{Tree}
use Rattle.go_judge.specs.Naming.{Naming}
use Rattle.go_judge.specs.Judged.{Nothing, OutcomeData}
use Rattle.go_judge.specs.Records.{RecData}
use Rattle.go_judge.specs.Headers.{Headers, Outcomes}
use Rattle.go_model.specs.Outcomes.Walk.{outcome}
use Rattle.go_model.specs.Outcomes.Walked.{AreWalked}
use Rattle.go_expr.specs.Read.{outcome_read}

-- the outcome that is read at a node that was walked
pub read_is : (naming : Naming) (headers : Headers) (nodes : List Tree) (outcomes : Outcomes) → AreWalked naming headers nodes outcomes → (t : Tree) → Contains nodes t → outcome_read outcomes t ≡ outcome naming headers t
read_is naming headers nodes outcomes walked t h = ap (λ (o : Option (OutcomeData RecData)). unwrap_or o Nothing) (walked t h)
