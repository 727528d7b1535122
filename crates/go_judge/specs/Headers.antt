-- Declarations and scope; Expressions (Go specification).
-- Says what is known of declarations, and what walks over expressions left: maps by the numbers of nodes. Which headers
-- and outcomes there are is left to go_model.
use Rattle.std.specs.Prelude.{ℕ, ◌==◌, Bool, nat_lt, Option, Some, None, List, [], ◌∷◌, if◌then◌else◌}
use Rattle.go_base.specs.declared.ids.ObjId.{ObjId}
use Rattle.go_module.specs.Modules.Module.{first_number}
use Rattle.go_judge.specs.Judged.{OutcomeData}
use Rattle.go_judge.specs.Records.{HeaderData, RecData}

-- a universe name has a number that no node has
abbrev pub is_predeclared : ObjId → Bool
is_predeclared d = nat_lt d.0 first_number

-- a map of headers: what it has for each declaring node and universe name, by its number
abbrev pub Headers : Type 0
Headers = ℕ → Option HeaderData

-- the headers before, with those of a list of pairs, the newest first
abbrev pub headers_of : Headers → List (ℕ × HeaderData) → Headers
headers_of before [] d = before d
headers_of before (p ∷ list) d = if p.0 == d then Some p.1 else headers_of before list d

-- the outcome of each node that a walk reached, by the node's number
abbrev pub Outcomes : Type 0
Outcomes = ℕ → Option (OutcomeData RecData)

-- no node was reached
abbrev pub no_outcomes : Outcomes
no_outcomes n = None
