-- What is asked of a node behind R1 and R2 of its operands, and what they are refused by.
use Rattle.std.proofs.Common.{◌≡◌, Some, None, [], ◌∷◌, ap, ◌∙◌}
use Rattle.go_judge.specs.Judged.{Asks, OutcomeData, asked}
use Rattle.go_judge.specs.Operands.{are_values}
use Rattle.go_judge.specs.Records.{HeaderData, RecData}
use Rattle.go_judge.specs.Headers.{Headers}
use Rattle.go_constructs.specs.Operators.Matching.{are_single}
use Rattle.go_ops.specs.Refusals.{one_refused, or_later, two_refused}
use Rattle.go_ops.proofs.EndLemmas.{one-refused, two-refused}

abbrev pub behind_one : RecData → Asks HeaderData RecData → Asks HeaderData RecData
behind_one x asks = record { tests = are_values 0 (x ∷ []) ∷ (are_single (x ∷ []) ∷ asks.tests); gives = asks.gives }

abbrev pub behind_two : RecData → RecData → Asks HeaderData RecData → Asks HeaderData RecData
behind_two x y asks = record { tests = are_values 0 (x ∷ (y ∷ [])) ∷ (are_single (x ∷ (y ∷ [])) ∷ asks.tests); gives = asks.gives }

module _ (headers : Headers) (asks : Asks HeaderData RecData) (o : OutcomeData RecData) where
  -- one that is refused, and one that is not
  pub one-stops : (x : RecData) → Some o ≡ one_refused x → o ≡ asked headers (Some (behind_one x asks))
  one-stops x is = ap (λ r. or_later r (asked headers (Some asks))) is ∙ one-refused headers asks.tests asks.gives x

  pub one-passes : (x : RecData) → None ≡ one_refused x → o ≡ asked headers (Some asks) → o ≡ asked headers (Some (behind_one x asks))
  one-passes x none is = is ∙ ap (λ r. or_later r (asked headers (Some asks))) none ∙ one-refused headers asks.tests asks.gives x

  -- and of two
  pub two-stop : (x y : RecData) → Some o ≡ two_refused x y → o ≡ asked headers (Some (behind_two x y asks))
  two-stop x y is = ap (λ r. or_later r (asked headers (Some asks))) is ∙ two-refused headers asks.tests asks.gives x y

  pub two-pass : (x y : RecData) → None ≡ two_refused x y → o ≡ asked headers (Some asks) → o ≡ asked headers (Some (behind_two x y asks))
  two-pass x y none is = is ∙ ap (λ r. or_later r (asked headers (Some asks))) none ∙ two-refused headers asks.tests asks.gives x y
