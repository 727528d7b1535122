-- The final type of a node and what its operands are wanted as, as the code finds them on its way down.
-- That the final types so found are those of an expression: `EndLemmas`.
use Rattle.std.specs.Prelude.{IfSome, Option, Some, None, List, [], ◌∷◌, ◌++◌, map}
use Rattle.std.specs.List.{AllByRecursion}
use Rattle.std.specs.Option.{option_map}
use Rattle.go_tree.specs.declared.node.NodeId.{NodeId}
use Rattle.go_tree.specs.declared.node_kind.NodeKind.{NodeKind}
use Rattle.go_tree.specs.Tree.{Tree, kind_of}
use Rattle.go_term.specs.Types.{TypeData}
use Rattle.go_term.specs.declared.term.Term.{Term}
use Rattle.go_judge.specs.Headers.{Headers}
use Rattle.go_judge.specs.Judged.{OutcomeData}
use Rattle.go_judge.specs.Records.{RecData}
use Rattle.go_model.specs.Outcomes.Readings.{record_by}
use Rattle.go_report.specs.Finals.Nodes.{Finals, finals_by}
use Rattle.go_report.specs.Finals.Untyped.{final_at}
use Rattle.go_report.specs.Finals.Wanted.{each_as, wanted}
use Rattle.go_final.specs.Wants.{AreOwnWants, wants_as}
use Rattle.go_final.specs.declared.walk.Ends.{Ends}

pub record EndsData : Type 0 where
  pub own : Option TypeData
  pub wants : List (Option TypeData)

abbrev pub ends_as : (Term → TypeData) → Ends → EndsData
ends_as tree ends = record { own = option_map tree ends.own; wants = wants_as tree ends.wants.items }

abbrev pub IsOwnEnds : (Term → Type 0) → Ends → Type 0
IsOwnEnds own ends = IfSome ends.own own × AreOwnWants own ends.wants.items

-- by the record and the final type of a node, and the records of its operands
abbrev pub ends_with : NodeKind → RecData → Option TypeData → List (Option RecData) → EndsData
ends_with kind whole final operands = record { own = final; wants = wanted kind whole final operands }

-- by its record and what it is wanted as
abbrev pub ends_at : Headers → NodeKind → Option RecData → Option TypeData → List (Option RecData) → EndsData
ends_at headers kind (Some whole) want operands = ends_with kind whole (final_at headers want whole) operands
ends_at headers kind None want operands = record { own = None; wants = each_as None operands }

module _ (headers : Headers) (outcome : Tree → OutcomeData RecData) where
  -- by the outcomes of the nodes
  abbrev pub ends_by : Option TypeData → Tree → List Tree → EndsData
  ends_by want t operands = ends_at headers (kind_of t) (record_by outcome t) want (map (record_by outcome) operands)

  -- the final types in nodes that are wanted so
  abbrev pub each_by : List (Option TypeData) → List Tree → Finals
  each_by (want ∷ wants) (t ∷ ts) = finals_by headers outcome want t ++ each_by wants ts
  each_by wants ts = []

-- final types by nodes, as the code lists them
abbrev pub final_as : (Term → TypeData) → NodeId × Term → NodeId × TypeData
final_as tree entry = (entry.0, tree entry.1)

abbrev pub finals_as : (Term → TypeData) → List (NodeId × Term) → Finals
finals_as tree list = map (final_as tree) list

abbrev pub AreOwnFinals : (Term → Type 0) → List (NodeId × Term) → Type 0
AreOwnFinals own list = AllByRecursion (λ entry. own entry.1) list
