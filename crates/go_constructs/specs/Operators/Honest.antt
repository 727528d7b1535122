-- Constants; Representability (Go specification).
-- Says which records operators take and give: a value stands exactly in that of a constant, which has a type that
-- represents it over these headers, so that it is of that type's kind and within the limits. Headers are so too.
use Rattle.std.specs.Prelude.{◌≡◌, ℕ, Some, is_some}
use Rattle.go_num.specs.declared.value.Value.{Value}
use Rattle.go_term.specs.Types.{TypeData}
use Rattle.go_judge.specs.Judged.{Found, OutcomeData}
use Rattle.go_judge.specs.Operands.{is_constant}
use Rattle.go_judge.specs.Records.{HeaderData, RecData, constant}
use Rattle.go_judge.specs.Headers.{Headers}
use Rattle.go_judge.specs.Quests.{Decided, run}
use Rattle.go_constructs.specs.Operators.Representable.{representable}
use Rattle.go_constructs.specs.declared.fit.Fit.TheVariants.{Fits}

-- a type of the record represents the value
pub record HasFitting (headers : Headers) (r : RecData) (v : Value) : Type 0 where
  pub type : TypeData
  pub has : r.type ≡ Some type
  pub fits : run headers (representable v type) ≡ Decided Fits

pub record IsHonest (headers : Headers) (r : RecData) : Type 0 where
  pub constant : is_some r.value ≡ is_constant r
  pub fitting : (v : Value) → r.value ≡ Some v → HasFitting headers r v

-- the record of an outcome, where it has one
abbrev pub GivesHonest : Headers → OutcomeData RecData → Type 0
GivesHonest headers outcome = (r : RecData) → outcome ≡ Found r → IsHonest headers r

-- a header is that of no constant, or of one that its type represents; those that are known are all so
abbrev pub IsHonestHeader : Headers → HeaderData → Type 0
IsHonestHeader headers h = (type : TypeData) (v : Value) → h ≡ constant type v → run headers (representable v type) ≡ Decided Fits

abbrev pub AreHonest : Headers → Type 0
AreHonest headers = (d : ℕ) (h : HeaderData) → headers d ≡ Some h → IsHonestHeader headers h
