-- Where a node has a record, breaks a rule, waits, and has nothing, in the words of `Exactly` of go_judge.
use Rattle.std.specs.Prelude.{◌≡◌, ℕ, ◌↔◌, List}
use Rattle.go_base.specs.declared.rule.Rule.{Rule}
use Rattle.go_tree.specs.Tree.{Tree}
use Rattle.go_judge.specs.Exactly.{Breaks, HasNothing, HasRecord, WaitsFor}
use Rattle.go_judge.specs.Headers.{Headers}
use Rattle.go_judge.specs.Judged.{Broken, Found, Nothing, Waits}
use Rattle.go_judge.specs.Naming.{Naming}
use Rattle.go_judge.specs.Records.{RecData}
use Rattle.go_judge.specs.declared.outcome.Spot.{Spot}
use Rattle.go_model.specs.Outcomes.Walk.{construct, operand_outcomes, outcome}

-- a node has a record exactly there, breaks a rule exactly there, waits exactly there, and has nothing exactly there
pub record OutcomeExactly (naming : Naming) (headers : Headers) (t : Tree) : Type 0 where
  pub found : (r : RecData) → (outcome naming headers t ≡ Found r) ↔ HasRecord headers (construct naming t) (operand_outcomes naming headers t) r
  pub broken : (rule : Rule) (spots : List Spot) → (outcome naming headers t ≡ Broken rule spots) ↔ Breaks headers (construct naming t) (operand_outcomes naming headers t) rule spots
  pub waits : (d : ℕ) → (outcome naming headers t ≡ Waits d) ↔ WaitsFor headers (construct naming t) (operand_outcomes naming headers t) d
  pub nothing : (outcome naming headers t ≡ Nothing) ↔ HasNothing (construct naming t) (operand_outcomes naming headers t)
