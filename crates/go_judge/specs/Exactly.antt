-- Where a node has a record, breaks a rule, waits, and has nothing, in words.
use Rattle.std.specs.Prelude.{◌≡◌, ◌≢◌, ℕ, ◌⊎◌, ◌↔◌, true, Option, Some, None, List, [], ◌∷◌, ◌++◌, Contains, map}
use Rattle.std.specs.List.{AllByRecursion}
use Rattle.go_base.specs.declared.rule.Rule.{Rule}
use Rattle.go_judge.specs.declared.outcome.Spot.{Spot}
use Rattle.go_judge.specs.Judged.{Asks, Broken, Found, Nothing, OutcomeData, Construct, RuleTest, Waits, first_lack, judged, no_spots, outcome_at}
use Rattle.go_judge.specs.Quests.{Decided, Lacks, run}

-- it breaks a rule, or has nothing
abbrev pub HasFailed : {R : Type 0} → OutcomeData R → Type 0
HasFailed (Found r) = ⊥
HasFailed (Broken rule spots) = Unit {0}
HasFailed (Waits d) = ⊥
HasFailed Nothing = Unit {0}

-- each test is Yes at each of its places
abbrev pub AllYes : {H : Type 0} → (ℕ → Option H) → List (RuleTest H) → Type 0
AllYes headers tests = AllByRecursion (λ test. AllByRecursion (λ place. run headers place.holds ≡ Decided true) test.spots) tests

-- a node's operands have records, and this is asked with them
pub record IsAsked {H R : Type 0} (construct : Construct H R) (parts : List (OutcomeData R)) (asks : Asks H R) : Type 0 where
  pub records : List R
  pub operands : map (outcome_at parts) construct.operands ≡ map Found records
  pub asked : construct.asks records ≡ Some asks

-- a node's operands have records, all its tests are Yes, and what its record asks comes to r
pub record HasRecord {H R : Type 0} (headers : ℕ → Option H) (construct : Construct H R) (parts : List (OutcomeData R)) (r : R) : Type 0 where
  pub asks : Asks H R
  pub asked : IsAsked construct parts asks
  pub yes : AllYes headers asks.tests
  pub gives : run headers asks.gives ≡ Decided r

-- a node's operands have records, its tests before one are Yes, and that one is No at exactly these places, one at
-- least
pub record Breaks {H R : Type 0} (headers : ℕ → Option H) (construct : Construct H R) (parts : List (OutcomeData R)) (rule : Rule) (spots : List Spot) : Type 0 where
  pub asks : Asks H R
  pub asked : IsAsked construct parts asks
  pub before : List (RuleTest H)
  pub test : RuleTest H
  pub behind : List (RuleTest H)
  pub order : asks.tests ≡ before ++ test ∷ behind
  pub yes : AllYes headers before
  pub is_rule : test.rule ≡ rule
  pub no : no_spots headers test.spots ≡ spots
  pub some : spots ≢ []

-- the first of these that has no record waits for d, and each behind it has a record or waits
pub record FirstWaits {R : Type 0} (operands : List (OutcomeData R)) (d : ℕ) : Type 0 where
  pub before : List R
  pub behind : List (OutcomeData R)
  pub order : operands ≡ map Found before ++ Waits d ∷ behind
  pub none_failed : AllByRecursion (λ x. HasFailed x → ⊥) behind

-- the tests before one are Yes, and at no place is that one No, but the first that lacks a header lacks that of d
pub record TestLacks {H : Type 0} (headers : ℕ → Option H) (tests : List (RuleTest H)) (d : ℕ) : Type 0 where
  pub before : List (RuleTest H)
  pub test : RuleTest H
  pub behind : List (RuleTest H)
  pub order : tests ≡ before ++ test ∷ behind
  pub yes : AllYes headers before
  pub no : no_spots headers test.spots ≡ []
  pub lacks : first_lack headers test.spots ≡ Some d

-- its first operand without a record waits for d, and none has failed; or its first test that is not Yes is No nowhere
-- and lacks the header of d; or, where all are Yes, what its record asks lacks it
abbrev pub WaitsFor : {H R : Type 0} → (ℕ → Option H) → Construct H R → List (OutcomeData R) → ℕ → Type 0
WaitsFor {H} {R} headers construct parts d =
    FirstWaits (map (outcome_at parts) construct.operands) d
    ⊎ ((asks : Asks H R) × IsAsked construct parts asks × (TestLacks headers asks.tests d ⊎ (AllYes headers asks.tests × (run headers asks.gives ≡ Lacks d))))

-- an operand has failed, or nothing is asked with the records of the operands: the node is no expression that is
-- built, or denotes nothing that has a record
abbrev pub HasNothing : {H R : Type 0} → Construct H R → List (OutcomeData R) → Type 0
HasNothing {H} {R} construct parts =
    ((x : OutcomeData R) × Contains (map (outcome_at parts) construct.operands) x × HasFailed x)
    ⊎ ((records : List R) × (map (outcome_at parts) construct.operands ≡ map Found records) × (construct.asks records ≡ None))

-- a node has a record exactly there, breaks a rule exactly there, waits exactly there, and has nothing exactly there
pub record JudgedExactly {H R : Type 0} (headers : ℕ → Option H) (construct : Construct H R) (parts : List (OutcomeData R)) : Type 0 where
  pub found : (r : R) → (judged headers construct parts ≡ Found r) ↔ HasRecord headers construct parts r
  pub broken : (rule : Rule) (spots : List Spot) → (judged headers construct parts ≡ Broken rule spots) ↔ Breaks headers construct parts rule spots
  pub waits : (d : ℕ) → (judged headers construct parts ≡ Waits d) ↔ WaitsFor headers construct parts d
  pub nothing : (judged headers construct parts ≡ Nothing) ↔ HasNothing construct parts
