-- One outcome a node: its record, the rule that it breaks, the declaration whose header it waits for, or nothing.
-- Decides which outcome a node has, by its construct, which says which of its operands are asked for their records and,
-- from these, what is asked of the node. A construct sees trees and records, never an outcome or a map of headers. Which one a
-- node is: `Walk`.
use Rattle.std.specs.Prelude.{ℕ, zero, suc, Bool, true, false, Option, Some, None, List, [], ◌∷◌, ◌++◌, map}
use Rattle.go_base.specs.declared.rule.Rule.{Rule}
use Rattle.go_judge.specs.declared.outcome.Spot.{Spot}
use Rattle.go_judge.specs.Quests.{Asked, Decided, Lacks, Quest, run}

-- with records of a kind R
pub data OutcomeData (R : Type 0) : Type 0 where
  Found : R → OutcomeData R
  Broken : Rule → List Spot → OutcomeData R
  Waits : ℕ → OutcomeData R
  Nothing : OutcomeData R

-- what a rule asks at one of its places
pub record SpotTest (H : Type 0) : Type 0 where
  pub spot : Spot
  pub holds : Quest H Bool

-- a rule, with what it asks at each of its places
pub record RuleTest (H : Type 0) : Type 0 where
  pub rule : Rule
  pub spots : List (SpotTest H)

-- what is asked of a node whose operands have records: its tests, in the order of the table of rules, and then its
-- record
pub record Asks (H R : Type 0) : Type 0 where
  pub tests : List (RuleTest H)
  pub gives : Quest H R

-- which of a node's operands are asked for their records, by their places among them, and what is asked with these
pub record Construct (H R : Type 0) : Type 0 where
  pub operands : List ℕ
  pub asks : List R → Option (Asks H R)

-- TESTS

abbrev pub spot_if_no : Spot → Asked Bool → List Spot
spot_if_no spot (Decided true) = []
spot_if_no spot (Decided false) = spot ∷ []
spot_if_no spot (Lacks d) = []

-- the places where the answer is No
abbrev pub no_spots : {H : Type 0} → (ℕ → Option H) → List (SpotTest H) → List Spot
no_spots headers [] = []
no_spots headers (p ∷ ps) = spot_if_no p.spot (run headers p.holds) ++ no_spots headers ps

abbrev pub lack_or : Asked Bool → Option ℕ → Option ℕ
lack_or (Decided b) rest = rest
lack_or (Lacks d) rest = Some d

-- the first header that some place lacks
abbrev pub first_lack : {H : Type 0} → (ℕ → Option H) → List (SpotTest H) → Option ℕ
first_lack headers [] = None
first_lack headers (p ∷ ps) = lack_or (run headers p.holds) (first_lack headers ps)

-- how a rule ends: No at some places, else lacking a header, else Yes at all
pub data RuleEnd : Type 0 where
  No : List Spot → RuleEnd
  Lacking : ℕ → RuleEnd
  Yes : RuleEnd

abbrev pub rule_end : List Spot → Option ℕ → RuleEnd
rule_end (s ∷ ss) lack = No (s ∷ ss)
rule_end [] (Some d) = Lacking d
rule_end [] None = Yes

abbrev pub end_on : {H : Type 0} → (ℕ → Option H) → RuleTest H → RuleEnd
end_on headers t = rule_end (no_spots headers t.spots) (first_lack headers t.spots)

-- a later rule is asked only where this one is Yes
abbrev pub ruled : {R : Type 0} → Rule → RuleEnd → OutcomeData R → OutcomeData R
ruled rule (No spots) later = Broken rule spots
ruled rule (Lacking d) later = Waits d
ruled rule Yes later = later

abbrev pub made : {R : Type 0} → Asked R → OutcomeData R
made (Decided r) = Found r
made (Lacks d) = Waits d

-- one rule after another, and then the record
abbrev pub tested : {H R : Type 0} → (ℕ → Option H) → List (RuleTest H) → Quest H R → OutcomeData R
tested headers [] gives = made (run headers gives)
tested headers (t ∷ ts) gives = ruled t.rule (end_on headers t) (tested headers ts gives)

-- OPERANDS

-- their records; or, where each that has none waits, what the first of these waits for; or neither
pub data Operands (R : Type 0) : Type 0 where
  All : List R → Operands R
  First : ℕ → Operands R
  Gone : Operands R

abbrev pub joined : {R : Type 0} → OutcomeData R → Operands R → Operands R
joined (Found r) (All rs) = All (r ∷ rs)
joined (Found r) (First d) = First d
joined (Waits d) (All rs) = First d
joined (Waits d) (First e) = First d
joined x rest = Gone

abbrev pub together : {R : Type 0} → List (OutcomeData R) → Operands R
together [] = All []
together (x ∷ xs) = joined x (together xs)

abbrev pub outcome_at : {R : Type 0} → List (OutcomeData R) → ℕ → OutcomeData R
outcome_at [] n = Nothing
outcome_at (x ∷ xs) zero = x
outcome_at (x ∷ xs) (suc n) = outcome_at xs n

-- A NODE

abbrev pub asked : {H R : Type 0} → (ℕ → Option H) → Option (Asks H R) → OutcomeData R
asked headers None = Nothing
asked headers (Some a) = tested headers a.tests a.gives

abbrev pub with_records : {H R : Type 0} → (ℕ → Option H) → Operands R → (List R → Option (Asks H R)) → OutcomeData R
with_records headers (All rs) asks = asked headers (asks rs)
with_records headers (First d) asks = Waits d
with_records headers Gone asks = Nothing

-- over these headers, where its operands have these outcomes
abbrev pub judged : {H R : Type 0} → (ℕ → Option H) → Construct H R → List (OutcomeData R) → OutcomeData R
judged headers construct parts = with_records headers (together (map (outcome_at parts) construct.operands)) construct.asks
