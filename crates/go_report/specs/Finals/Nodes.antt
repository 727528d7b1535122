-- Expressions; Constant declarations; Array types (Go specification).
-- Decides the final types of all untyped expressions in a spec, and the records of nodes in the end. One is decided by
-- `Untyped`, and what operands are wanted as by `Wanted`.
use Rattle.std.specs.Prelude.{Option, Some, None, List, [], ◌∷◌, ◌++◌, map}
use Rattle.std.specs.List.{flat_map}
use Rattle.std.specs.Map.{lookup}
use Rattle.go_tree.specs.declared.node.NodeId.{NodeId}
use Rattle.go_tree.specs.Tree.{Tree, id_of, kind_of}
use Rattle.go_term.specs.Types.{TypeData}
use Rattle.go_module.specs.Names.Declarations.{Spec}
use Rattle.go_module.specs.Scopes.{same_node}
use Rattle.go_operands.specs.Operands.{folded}
use Rattle.go_judge.specs.Headers.{Headers}
use Rattle.go_judge.specs.Judged.{OutcomeData}
use Rattle.go_judge.specs.Records.{RecData}
use Rattle.go_model.specs.Outcomes.Readings.{record_by}
use Rattle.go_report.specs.Finals.Untyped.{final_at}
use Rattle.go_report.specs.Finals.Wanted.{each_as, wanted}

-- final types, by the nodes that have some
abbrev pub Finals : Type 0
Finals = List (NodeId × TypeData)

-- what comes to a node: its record, and the final types of all that stands in it, by what it is wanted as
pub record Typed : Type 0 where
  pub found : Option RecData
  pub finals : Option TypeData → Finals

-- those in operands that are wanted so
abbrev pub each_wanted : List (Option TypeData) → List Typed → Finals
each_wanted (want ∷ wants) (operand ∷ operands) = operand.finals want ++ each_wanted wants operands
each_wanted wants operands = []

abbrev pub final_of : Tree → Option TypeData → Finals
final_of t (Some type) = (record { 0 = id_of t }, type) ∷ []
final_of t None = []

abbrev pub founds : List Typed → List (Option RecData)
founds operands = map (λ operand. operand.found) operands

-- a node of this record and this final type, before its operands
abbrev pub with_operands : Tree → RecData → List Typed → Option TypeData → Finals
with_operands t r operands final = final_of t final ++ each_wanted (wanted (kind_of t) r final (founds operands)) operands

module _ (headers : Headers) where
  -- what has no record has no final type
  abbrev pub finals_at : Tree → Option RecData → List Typed → Option TypeData → Finals
  finals_at t (Some r) operands want = with_operands t r operands (final_at headers want r)
  finals_at t None operands want = each_wanted (each_as None operands) operands

  -- by whatever says which outcome a node has
  module _ (outcome : Tree → OutcomeData RecData) where
    abbrev pub typed_by : Tree → List Typed → Typed
    typed_by t operands = record { found = record_by outcome t; finals = finals_at t (record_by outcome t) operands }

    -- those in an expression or a type that is wanted as a type, or as none
    abbrev pub finals_by : Option TypeData → Tree → Finals
    finals_by want t = (folded typed_by t).own.finals want

    -- those in a spec: types, and the values of constants that are declared without a type, are wanted as none; other
    -- values are not built yet
    abbrev pub finals_in_spec : Spec → Finals
    finals_in_spec spec = flat_map (finals_by None) (spec.types ++ spec.values)

-- the final type of a node among these, where it has one
abbrev pub final_among : Finals → NodeId → Option TypeData
final_among finals id = lookup (same_node id) finals

-- the record of a node with its final type
abbrev pub typed_as : Option TypeData → RecData → RecData
typed_as (Some type) r = record r { type = Some type }
typed_as None r = r

abbrev pub in_the_end : (NodeId → Option TypeData) → Tree → RecData → RecData
in_the_end final t r = typed_as (final (record { 0 = id_of t })) r
