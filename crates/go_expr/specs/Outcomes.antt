-- The outcome of a node as the code finds it, by its value and by its first part. That it is the outcome of the
-- node: `NodeOutcomeLemmas`.
use Rattle.std.specs.Prelude.{ℕ, ℤ, length, nat_le, if◌then◌else◌, Option, Some, None, List, [], ◌∷◌, slice_get}
use Rattle.std.specs.Option.{option_map}
use Rattle.go_num.specs.Text.{most_text}
use Rattle.go_num.specs.declared.value.Value.TheVariants.{Int, Text}
use Rattle.go_term.specs.Types.{TypeData, basic_type}
use Rattle.go_term.specs.declared.basic.Basic.TheVariants.{UntypedString}
use Rattle.go_term.specs.declared.term.Dir.{Dir}
use Rattle.go_term.specs.declared.term.Dir.TheVariants.{Both, Receive, Send}
use Rattle.go_tree.specs.declared.node_kind.NodeKind.{NodeKind}
use Rattle.go_tree.specs.declared.node_kind.NodeKind.TheVariants.{ArrowExpr, ChanType}
use Rattle.go_tree.specs.Tree.{Tree, kind_of, list_of, parts_of}
use Rattle.go_judge.specs.declared.outcome.Spot.TheVariants.{Whole}
use Rattle.go_constructs.specs.Channel.{channel}
use Rattle.go_judge.specs.Limits.{wide_integer}
use Rattle.go_judge.specs.Judged.{Construct, OutcomeData}
use Rattle.go_judge.specs.Judged as outcomes
use Rattle.go_judge.specs.Operands.{no_construct}
use Rattle.go_judge.specs.Records.{HeaderData, RecData, typed_record}
use Rattle.go_judge.specs.declared.rec.Mode.TheVariants.{Const}
use Rattle.go_base.specs.declared.ids.ObjId.{ObjId}
use Rattle.go_constructs.specs.Integers.{untyped_int}
use Rattle.go_constructs.specs.Operators.Constants.{constant_record}
use Rattle.go_constructs.specs.Operators.Rules.{long_text}

-- a value within the limits, as an untyped constant of this kind, or the rule that it breaks
abbrev pub limited_view : TypeData → Option ℤ → OutcomeData RecData
limited_view kind (Some v) = outcomes.Found (constant_record kind (Int v))
limited_view kind None = outcomes.Broken wide_integer (Whole ∷ [])

-- a string within the limits, as an untyped constant, or the rule that it breaks
abbrev pub text_view : List ℕ → OutcomeData RecData
text_view bytes =
    if nat_le (length bytes) most_text then outcomes.Found (constant_record (basic_type UntypedString) (Text bytes))
    else outcomes.Broken long_text (Whole ∷ [])

-- the predeclared iota with this value, or the rule that it breaks
abbrev pub iota_view : ObjId → Option ℤ → OutcomeData RecData
iota_view d (Some v) = outcomes.Found (record (typed_record d Const untyped_int) { value = Some (Int v) })
iota_view d None = outcomes.Broken wide_integer (Whole ∷ [])

-- CHANNELS

-- the kind of the first part of a node
abbrev pub first_kind : Tree → Option NodeKind
first_kind t = option_map kind_of (slice_get (list_of (parts_of t)) 0)

-- behind `chan`, by what stands first there
abbrev pub direction_by : Option NodeKind → Dir
direction_by (Some ArrowExpr) = Send
direction_by kind = Both

-- behind an arrow, by what stands first there
abbrev pub arrow_by : Option NodeKind → Construct HeaderData RecData
arrow_by (Some ChanType) = channel Receive
arrow_by kind = no_construct
