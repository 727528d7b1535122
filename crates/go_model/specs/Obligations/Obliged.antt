-- Struct types; Interface types; Type declarations (Go specification).
-- Decides what the types of a package break that needs headers no node waits for, over those known at the end: C9 at an
-- embedded field, C15 where a constraint is the type of a variable, a component of a type that is no interface, or the type
-- of a parameter or result of an interface's method, C19 at an interface. Where a node that is needed has no record,
-- nothing is broken; nor where a header is lacking that no answer does without.
use Rattle.std.specs.Prelude.{◌≡◌, Bool, true, false, Option, Some, List, [], Contains, drop, filter, option_and_then, unwrap_or}
use Rattle.std.specs.List.{flat_map, zip}
use Rattle.go_base.specs.declared.rule.Broken.{Broken}
use Rattle.go_base.specs.declared.rule.Rule.{Rule}
use Rattle.go_tree.specs.declared.node_kind.NodeKind.{NodeKind}
use Rattle.go_tree.specs.declared.node_kind.NodeKind.TheVariants.{ArrayType, ArrowExpr, ChanType, EmbeddedPointer, FuncType, InterfaceType, MapType, MethodElem, SliceType, StarExpr, StructType}
use Rattle.go_tree.specs.Tree.{Tree, kind_of, list_of, parts_of, start_of}
use Rattle.go_module.specs.declared.object.ObjKind.{ObjKind}
use Rattle.go_module.specs.declared.object.ObjKind.TheVariants.{Var}
use Rattle.go_module.specs.Broken.{broken_at}
use Rattle.go_module.specs.Modules.Module.{PackageData}
use Rattle.go_module.specs.Names.Declarations.{Spec, specs_of}
use Rattle.go_module.specs.Places.{with_number}
use Rattle.go_operands.specs.Operands.{expressions_in_parts, operands_of}
use Rattle.go_term.specs.Types.{TypeData}
use Rattle.go_model.specs.Obligations.Constraints.{IsConstraint, misused_constraint}
use Rattle.go_model.specs.Obligations.Embedding.{invalid_embedding, may_be_embedded}
use Rattle.go_model.specs.Obligations.Methods.{GetsTwo, differing_methods}
use Rattle.go_judge.specs.Judged.{OutcomeData}
use Rattle.go_judge.specs.Records.{RecData, type_in}
use Rattle.go_judge.specs.Headers.{Headers}
use Rattle.go_judge.specs.Quests.{Decided, run}
use Rattle.go_model.specs.Outcomes.Readings.{record_by}

-- what stands for a type in an interface: the parameters and results of its methods, and no embedded type
abbrev pub is_method_elem : NodeKind → Bool
is_method_elem MethodElem = true
is_method_elem kind = false

abbrev pub types_of_methods : Tree → List Tree
types_of_methods t = flat_map operands_of (filter (λ elem. is_method_elem (kind_of elem)) (list_of (parts_of t)))

-- the operands of a node that are components of a type, or types of parameters and results; the length of an array is none
abbrev pub components_by : NodeKind → Tree → List Tree
components_by ArrayType t = drop 1 (operands_of t)
components_by InterfaceType t = types_of_methods t
components_by SliceType t = operands_of t
components_by MapType t = operands_of t
components_by ChanType t = operands_of t
components_by ArrowExpr t = operands_of t
components_by StarExpr t = operands_of t
components_by EmbeddedPointer t = operands_of t
components_by StructType t = operands_of t
components_by FuncType t = operands_of t
components_by kind t = []

abbrev pub components_of : Tree → List Tree
components_of t = components_by (kind_of t) t

-- the types behind the names of variables
abbrev pub variable_types : ObjKind → List Tree → List Tree
variable_types Var types = types
variable_types kind types = []

-- by whatever says which outcome a node has, over these headers
module _ (outcome : Tree → OutcomeData RecData) (headers : Headers) where
  -- the type for which a node stands
  abbrev pub written_type : Tree → Option TypeData
  written_type t = option_and_then type_in (record_by outcome t)

  -- a constraint stands at a node
  pub record IsMisused (t : Tree) : Type 0 where
    pub type : TypeData
    pub written : written_type t ≡ Some type
    pub is_constraint : IsConstraint headers type

  -- what a node breaks, and at which node it is told
  pub data NodeBreaks (t : Tree) : Tree → Rule → Type 0 where
    embedding : (field type : Tree) (embedded : TypeData) → kind_of t ≡ StructType → Contains (zip (list_of (parts_of t)) (operands_of t)) (field, type)
        → written_type type ≡ Some embedded → run headers (may_be_embedded (kind_of field) embedded) ≡ Decided false → NodeBreaks t field invalid_embedding
    component : (type : Tree) → Contains (components_of t) type → IsMisused type → NodeBreaks t type misused_constraint
    methods : (type : TypeData) → kind_of t ≡ InterfaceType → written_type t ≡ Some type → GetsTwo headers type → NodeBreaks t t differing_methods

  -- what a spec breaks
  pub data SpecBreaks (spec : Spec) : Tree → Rule → Type 0 where
    variable : (type : Tree) → Contains (variable_types spec.kind spec.types) type → IsMisused type → SpecBreaks spec type misused_constraint
    within : (t at : Tree) (rule : Rule) → Contains (expressions_in_parts spec) t → NodeBreaks t at rule → SpecBreaks spec at rule

  -- what the specs of a package break, where they are told
  pub data Obliged (p : PackageData) : Broken → Type 0 where
    of_spec : (spec : Spec) (at : Tree) (rule : Rule) → Contains (specs_of p) spec → SpecBreaks spec at rule
        → Obliged p (with_number p.files (broken_at spec.file (unwrap_or spec.told_at (start_of at)) rule))
