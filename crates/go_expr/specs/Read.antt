-- What is read off the outcomes that walks left, by the numbers of nodes.
use Rattle.std.specs.Prelude.{List, unwrap_or}
use Rattle.std.specs.List.{flat_map}
use Rattle.go_tree.specs.Tree.{Tree, id_of}
use Rattle.go_module.specs.Names.Declarations.{Declaration, rests_on}
use Rattle.go_operands.specs.Operands.{expressions_in}
use Rattle.go_judge.specs.Judged.{Nothing, OutcomeData}
use Rattle.go_judge.specs.Records.{RecData}
use Rattle.go_judge.specs.Headers.{Outcomes}

-- the outcome of a node, and nothing where no walk reached it
abbrev pub outcome_read : Outcomes → Tree → OutcomeData RecData
outcome_read outcomes t = unwrap_or (outcomes (id_of t)) Nothing

-- the nodes of the parts on which the header of a declaration rests
abbrev pub nodes_under : Declaration → List Tree
nodes_under d = flat_map expressions_in (rests_on d)
