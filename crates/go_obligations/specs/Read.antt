-- What is read off the outcomes that walks left, by the numbers of nodes.
use Rattle.std.specs.Prelude.{unwrap_or}
use Rattle.go_tree.specs.Tree.{Tree, id_of}
use Rattle.go_judge.specs.Judged.{Nothing, OutcomeData}
use Rattle.go_judge.specs.Records.{RecData}
use Rattle.go_judge.specs.Headers.{Outcomes}

-- the outcome of a node, and nothing where no walk reached it
abbrev pub outcome_read : Outcomes → Tree → OutcomeData RecData
outcome_read outcomes t = unwrap_or (outcomes (id_of t)) Nothing
