-- Of which nodes something is asked.
use Rattle.std.specs.Prelude.{◌≡◌, ℕ, ◌<◌, Some, List, Contains, length}
use Rattle.go_tree.specs.Tree.{Tree}
use Rattle.go_operands.specs.Operands.{operands_of}
use Rattle.go_judge.specs.Naming.{Naming}
use Rattle.go_judge.specs.Judged.{Asks}
use Rattle.go_judge.specs.Records.{HeaderData, RecData}
use Rattle.go_model.specs.Outcomes.Walk.{construct}
use Rattle.go_laws.specs.Complete.{asked_in}

-- a node has the operands that its construct asks, and with any records of these something is asked of it
pub record IsAsked (naming : Naming) (t : Tree) : Type 0 where
  pub within : (n : ℕ) → Contains (construct naming t).operands n → n < length (operands_of t)
  pub asks : (records : List RecData) → length records ≡ length (construct naming t).operands → (a : Asks HeaderData RecData) × ((construct naming t).asks records ≡ Some a)

-- so it is of each node of these expressions that is asked for a record
abbrev pub AreAsked : Naming → List Tree → Type 0
AreAsked naming trees = (t : Tree) → Contains trees t → (s : Tree) → Contains (asked_in naming t) s → IsAsked naming s
