-- Declarations and scope; Constant declarations (Go specification).
-- Decides which declaration waits for the header of which, and which wait for themselves.
use Rattle.std.specs.Prelude.{◌≡◌, ℕ, Some, List, Contains}
use Rattle.std.specs.List.{flat_map}
use Rattle.go_tree.specs.Tree.{Tree}
use Rattle.go_judge.specs.Naming.{Naming}
use Rattle.go_module.specs.Names.Declarations.{Declaration, rests_on}
use Rattle.go_operands.specs.Operands.{expressions_in}
use Rattle.go_judge.specs.Judged.{OutcomeData}
use Rattle.go_model.specs.Outcomes.Readings.{awaited_in}
use Rattle.go_judge.specs.Records.{RecData}
use Rattle.go_judge.specs.Headers.{Headers}
use Rattle.go_model.specs.Outcomes.Walk.{outcome}
use Rattle.go_values.specs.Declared.{declared_as}

-- by whatever says which outcome a node has: the declarations whose headers the nodes of an expression or a type wait for
abbrev pub awaited_among : (Tree → OutcomeData RecData) → Tree → List ℕ
awaited_among outcome t = flat_map (λ node. awaited_in (outcome node)) (expressions_in t)

-- and those for which nodes wait in the parts that the header of a declaration rests on
abbrev pub awaited_under : (Tree → OutcomeData RecData) → Declaration → List ℕ
awaited_under outcome d = flat_map (awaited_among outcome) (rests_on d)

-- both over the headers
abbrev pub awaited_by_nodes : Naming → Headers → Tree → List ℕ
awaited_by_nodes naming headers t = awaited_among (outcome naming headers) t

abbrev pub awaited_by : Naming → Headers → Declaration → List ℕ
awaited_by naming headers d = awaited_under (outcome naming headers) d

-- the declaration d waits for the declaration e: a node of the parts that its header rests on waits for the header of e
pub record Waits (naming : Naming) (declarations : List Declaration) (headers : Headers) (d e : ℕ) : Type 0 where
  pub declaration : Declaration
  pub declared : declared_as declarations d ≡ Some declaration
  pub awaits : Contains (awaited_by naming headers declaration) e

-- some waits, one after another, lead from d to e
pub data Chain (naming : Naming) (declarations : List Declaration) (headers : Headers) (d : ℕ) : ℕ → Type 0 where
  one : (e : ℕ) → Waits naming declarations headers d e → Chain naming declarations headers d e
  more : (e f : ℕ) → Chain naming declarations headers d e → Waits naming declarations headers e f → Chain naming declarations headers d f
