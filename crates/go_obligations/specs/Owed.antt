-- Struct types; Interface types; Type declarations (Go specification).
-- Says what is demanded of the types that are written in specs, each with the offset at which it is told where the type does
-- not meet the demand, as one list; and what such a list breaks. `Obliged` of go_model says the same by relations.
use Rattle.std.specs.Prelude.{◌≡◌, ℕ, false, Option, List, [], ◌++◌, Contains, map, option_and_then, option_to_list, unwrap_or}
use Rattle.std.specs.List.{AllByRecursion, flat_map, zip}
use Rattle.go_base.specs.declared.rule.Broken.{Broken}
use Rattle.go_base.specs.declared.rule.Rule.{Rule}
use Rattle.go_tree.specs.declared.node_kind.NodeKind.{NodeKind}
use Rattle.go_tree.specs.declared.node_kind.NodeKind.TheVariants.{EmbeddedField, EmbeddedPointer, InterfaceType, MethodElem, StructType}
use Rattle.go_tree.specs.Tree.{Tree, kind_of, list_of, parts_of, start_of}
use Rattle.go_module.specs.Broken.{broken_at}
use Rattle.go_module.specs.Names.Declarations.{Spec}
use Rattle.go_operands.specs.Operands.{expressions_in_parts, operands_of}
use Rattle.go_term.specs.Types.{TypeData}
use Rattle.go_term.specs.declared.term.Term.{Term}
use Rattle.go_model.specs.Obligations.Constraints.{IsConstraint, misused_constraint}
use Rattle.go_model.specs.Obligations.Embedding.{invalid_embedding, may_be_embedded}
use Rattle.go_model.specs.Obligations.Methods.{GetsTwo, differing_methods}
use Rattle.go_model.specs.Obligations.Obliged.{components_of, variable_types}
use Rattle.go_judge.specs.Judged.{OutcomeData}
use Rattle.go_judge.specs.Records.{RecData, type_in}
use Rattle.go_judge.specs.Headers.{Headers}
use Rattle.go_judge.specs.Quests.{Decided, run}
use Rattle.go_model.specs.Outcomes.Readings.{record_by}
use Rattle.go_obligations.specs.declared.obligation.Demand.{Demand}
use Rattle.go_obligations.specs.declared.obligation.Demand.TheVariants.{Embeddable, NoConstraint, OneTypeEach}
use Rattle.go_obligations.specs.declared.obligation.Obligation.{Obligation}

-- a demand on a type, and the place of the file and the offset at which it is told where the type does not meet it
pub record Owed : Type 0 where
  pub file : ℕ
  pub offset : ℕ
  pub demand : Demand
  pub type : TypeData

-- what the obligations of the program stand for, where a type stands for what `tree` says
abbrev pub owed_as : (Term → TypeData) → Obligation → Owed
owed_as tree o = record { file = o.file; offset = o.offset; demand = o.demand; type = tree o.ty }

abbrev pub owed_view : (Term → TypeData) → List Obligation → List Owed
owed_view tree list = map (owed_as tree) list

-- the type of each is one of these
abbrev pub AreOwnObligations : (Term → Type 0) → List Obligation → Type 0
AreOwnObligations own list = AllByRecursion (λ o. own o.ty) list

-- WHAT IS BROKEN

abbrev pub rule_of : Demand → Rule
rule_of NoConstraint = misused_constraint
rule_of (Embeddable kind) = invalid_embedding
rule_of OneTypeEach = differing_methods

abbrev pub told_of : Owed → Broken
told_of o = broken_at o.file o.offset (rule_of o.demand)

module _ (headers : Headers) where
  -- over these headers the type does not meet the demand
  abbrev pub Fails : Demand → TypeData → Type 0
  Fails NoConstraint t = IsConstraint headers t
  Fails (Embeddable kind) t = run headers (may_be_embedded kind t) ≡ Decided false
  Fails OneTypeEach t = GetsTwo headers t

  -- what is told of a list: each rule at a type that does not meet its demand
  pub record IsTold (list : List Owed) (b : Broken) : Type 0 where
    pub owed : Owed
    pub among : Contains list owed
    pub fails : Fails owed.demand owed.type
    pub told : told_of owed ≡ b

-- WHAT IS DEMANDED

-- what is demanded of an element of an interface stands in its methods alone
abbrev pub types_of_elem : NodeKind → Tree → List Tree
types_of_elem MethodElem elem = operands_of elem
types_of_elem kind elem = []

-- the type for which a node stands, by whatever says which outcome it has
abbrev pub written_by : (Tree → OutcomeData RecData) → Tree → Option TypeData
written_by outcome t = option_and_then type_in (record_by outcome t)

-- by whatever says which outcome a node has, in the file at a place; told at the nodes, or at the offset of a copy
module _ (outcome : Tree → OutcomeData RecData) (file : ℕ) (told_at : Option ℕ) where
  -- of the type for which the second node stands, told at the first
  abbrev pub owed_at : Demand → Tree → Tree → List Owed
  owed_at demand at t =
      map (λ type. record { file = file; offset = unwrap_or told_at (start_of at); demand = demand; type = type }) (option_to_list (written_by outcome t))

  -- of the type of a field, by the kind of its declaration
  abbrev pub owed_by_kind : NodeKind → Tree → Tree → List Owed
  owed_by_kind EmbeddedField field t = owed_at (Embeddable EmbeddedField) field t
  owed_by_kind EmbeddedPointer field t = owed_at (Embeddable EmbeddedPointer) field t
  owed_by_kind kind field t = []

  abbrev pub owed_by_field : Tree → Tree → List Owed
  owed_by_field field t = owed_by_kind (kind_of field) field t

  abbrev pub owed_by_fields : List Tree → List Tree → List Owed
  owed_by_fields fields types = flat_map (λ pair. owed_by_field pair.0 pair.1) (zip fields types)

  -- of types of variables, and of components of types
  abbrev pub owed_by_types : List Tree → List Owed
  owed_by_types types = flat_map (λ t. owed_at NoConstraint t t) types

  -- of a struct type and an interface type themselves
  abbrev pub owed_by_literal : NodeKind → Tree → List Owed
  owed_by_literal StructType t = owed_by_fields (list_of (parts_of t)) (operands_of t)
  owed_by_literal InterfaceType t = owed_at OneTypeEach t t
  owed_by_literal kind t = []

  abbrev pub owed_by_node : Tree → List Owed
  owed_by_node t = owed_by_literal (kind_of t) t ++ owed_by_types (components_of t)

-- of what is written in specs
module _ (outcome : Tree → OutcomeData RecData) where
  abbrev pub owed_by_spec : Spec → List Owed
  owed_by_spec spec =
      owed_by_types outcome spec.file spec.told_at (variable_types spec.kind spec.types) ++ flat_map (owed_by_node outcome spec.file spec.told_at) (expressions_in_parts spec)

  abbrev pub owed_by_specs : List Spec → List Owed
  owed_by_specs specs = flat_map owed_by_spec specs
