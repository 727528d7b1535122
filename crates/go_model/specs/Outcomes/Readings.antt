-- What the outcome of a node says: its record, what it waits for, and what is broken where.
use Rattle.std.specs.Prelude.{ℕ, Option, Some, None, List, [], ◌∷◌, map, slice_get, unwrap_or}
use Rattle.std.specs.Option.{option_map_or}
use Rattle.go_base.specs.declared.rule.Broken.{Broken as BrokenAt}
use Rattle.go_tree.specs.Tree.{Tree, list_of, parts_of, start_of}
use Rattle.go_module.specs.Broken.{broken_at}
use Rattle.go_operands.specs.Operands.{operands_of}
use Rattle.go_judge.specs.declared.outcome.Spot.{Spot}
use Rattle.go_judge.specs.declared.outcome.Spot.TheVariants.{Name, Part, Whole}
use Rattle.go_judge.specs.Judged.{Broken, Found, Nothing, OutcomeData, Waits}

-- the record of a node that has one
abbrev pub record_in : {R : Type 0} → OutcomeData R → Option R
record_in (Found r) = Some r
record_in (Broken rule spots) = None
record_in (Waits d) = None
record_in Nothing = None

-- by whatever says which outcome a node has: the record of an expression, where it has one
abbrev pub record_by : {R : Type 0} → (Tree → OutcomeData R) → Tree → Option R
record_by outcome t = record_in (outcome t)

-- the declaration whose header a node waits for
abbrev pub awaited_in : {R : Type 0} → OutcomeData R → List ℕ
awaited_in (Found r) = []
awaited_in (Broken rule spots) = []
awaited_in (Waits d) = d ∷ []
awaited_in Nothing = []

-- the offset of a spot of a node: where the node starts, the name behind its `.`, or an operand; where there is none, where the
-- node starts
abbrev pub start_among : List Tree → Tree → ℕ → ℕ
start_among parts t n = option_map_or start_of (slice_get parts n) (start_of t)

abbrev pub spot_start : Tree → Spot → ℕ
spot_start t Whole = start_of t
spot_start t Name = start_among (list_of (parts_of t)) t 1
spot_start t (Part n) = start_among (operands_of t) t n

-- what is broken in the file at a place among those of its package, where this says at which offsets spots stand: the rule
-- at each of its spots, or at the offset at which a copy is told
abbrev pub spots_told : {R : Type 0} → ℕ → Option ℕ → (Spot → ℕ) → OutcomeData R → List BrokenAt
spots_told file told starts (Found r) = []
spots_told file told starts (Broken rule spots) = map (λ spot. broken_at file (unwrap_or told (starts spot)) rule) spots
spots_told file told starts (Waits d) = []
spots_told file told starts Nothing = []

-- at a node
abbrev pub broken_spots : {R : Type 0} → ℕ → Option ℕ → Tree → OutcomeData R → List BrokenAt
broken_spots file told t outcome = spots_told file told (spot_start t) outcome
