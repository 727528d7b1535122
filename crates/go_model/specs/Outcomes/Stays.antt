-- What stays of outcomes as the map of headers grows.
use Rattle.std.specs.Prelude.{◌≡◌, ℕ, ◌⊎◌, None, List, Contains}
use Rattle.go_base.specs.declared.rule.Rule.{Rule}
use Rattle.go_tree.specs.Tree.{Tree}
use Rattle.go_judge.specs.Naming.{Naming}
use Rattle.go_judge.specs.declared.outcome.Spot.{Spot}
use Rattle.go_judge.specs.Exactly.{HasFailed}
use Rattle.go_judge.specs.Judged.{Broken, Found, Nothing, OutcomeData, Waits}
use Rattle.go_judge.specs.Records.{RecData}
use Rattle.go_judge.specs.Headers.{Headers}
use Rattle.go_model.specs.Outcomes.Walk.{outcome}

-- the rule is broken, at these places and maybe more
pub record StillBroken {R : Type 0} (rule : Rule) (spots : List Spot) (later : OutcomeData R) : Type 0 where
  pub spots_then : List Spot
  pub broken : later ≡ Broken rule spots_then
  pub among : (s : Spot) → Contains spots s → Contains spots_then s

-- the outcome of each node over more headers: a record stays; a broken rule stays, at its places and maybe more; what
-- has nothing has nothing; and what waits for d waits for d or has failed, as long as the header of d is missing. What
-- a node waits for is missing
pub record OutcomeStays (naming : Naming) (known more : Headers) (t : Tree) : Type 0 where
  pub found : (r : RecData) → outcome naming known t ≡ Found r → outcome naming more t ≡ Found r
  pub broken : (rule : Rule) (spots : List Spot) → outcome naming known t ≡ Broken rule spots → StillBroken rule spots (outcome naming more t)
  pub nothing : outcome naming known t ≡ Nothing → outcome naming more t ≡ Nothing
  pub waits : (d : ℕ) → outcome naming known t ≡ Waits d → more d ≡ None → (outcome naming more t ≡ Waits d) ⊎ HasFailed (outcome naming more t)
  pub lacks : (d : ℕ) → outcome naming known t ≡ Waits d → known d ≡ None
