-- What is demanded by the outcomes that are read is what is demanded by those of the nodes, where they were walked.
use Rattle.std.proofs.Common.{◌≡◌, ℕ, zero, suc, ◌+◌, ◌<◌, Option, Some, List, [], ◌∷◌, ◌++◌, Contains, get_or, length, map, refl, sym, ap, subst, arith}
use Rattle.std.specs.Prelude.{option_and_then, option_to_list, slice_get, unwrap_or}
use Rattle.std.specs.List.{zip}
use Rattle.std.proofs.lemmas.List.Elements.{Contains-append_left}
use Rattle.go_tree.specs.declared.node_kind.NodeKind.{NodeKind}
use Rattle.go_tree.specs.declared.node_kind.NodeKind.TheVariants.{EmbeddedField, EmbeddedPointer, InterfaceType, StructType}
use Rattle.go_tree.specs.Tree.{Tree, kind_of, list_of, parts_of, start_of}
use Rattle.go_module.specs.declared.object.ObjKind.{ObjKind}
use Rattle.go_module.specs.declared.object.ObjKind.TheVariants.{Var}
use Rattle.go_module.specs.Modules.Module.{FileData, PackageData}
use Rattle.go_module.specs.Names.Declarations.{Spec, specs_from, specs_in_file, specs_of}
use Rattle.go_module.proofs.MemberLemmas.{contains_none}
use Rattle.go_names.specs.Views.{all_specs, specs_by_file}
use Rattle.go_operands.specs.Operands.{expressions_in, expressions_in_parts, operands_of}
use Rattle.go_term.specs.Types.{TypeData}
use Rattle.go_model.specs.Obligations.Obliged.{components_of, variable_types}
use Rattle.go_judge.specs.Judged.{Nothing, OutcomeData}
use Rattle.go_model.specs.Outcomes.Readings.{record_in}
use Rattle.go_judge.specs.Records.{RecData, type_in}
use Rattle.go_judge.specs.Headers.{Headers, Outcomes}
use Rattle.go_model.specs.Outcomes.Walk.{outcome}
use Rattle.go_model.specs.Outcomes.Walked.{AreWalked, nodes_of}
use Rattle.go_judge.specs.Naming.{Naming}
use Rattle.go_model.proofs.FlatLemmas.{flat_cases, flat_contains, flat_map-same}
use Rattle.go_obligations.specs.declared.obligation.Demand.{Demand}
use Rattle.go_obligations.specs.declared.obligation.Demand.TheVariants.{Embeddable, NoConstraint, OneTypeEach}
use Rattle.go_obligations.specs.Owed.{Owed, owed_at, owed_by_field, owed_by_kind, owed_by_literal, owed_by_node, owed_by_spec, owed_by_specs, owed_by_types, written_by}
use Rattle.go_obligations.specs.Read.{outcome_read}
use Rattle.go_obligations.proofs.ComponentLemmas.{component_operand, operand_in, second_within, self_in}

-- the specs of all files, in one list
pub all_from : (file : ℕ) (files : List FileData) → all_specs (specs_by_file file files) ≡ specs_from file files
all_from file [] = refl
all_from file (f ∷ files) = ap (λ rest. specs_in_file file f.tree ++ rest) (all_from (file + 1) files)

-- what a view shows of an element, and what holds of it holds of what stands there
pub viewed_at : {X Y : Type 0} (f : X → Y) (xs : List X) (q : ℕ) (x : X) → q < length xs → x ≡ get_or xs q x → slice_get (map f xs) q ≡ Some (f x)
viewed_at f [] q x lt e = absurd (omega (arith, lt))
viewed_at f (y ∷ xs) zero x lt e = ap (λ z. Some (f z)) (sym e)
viewed_at f (y ∷ xs) (suc q) x lt e = viewed_at f xs q x (omega (arith, lt)) e

pub of_each_there : {X : Type 0} (P : X → Type 0) (xs : List X) (k : ℕ) (x : X) → slice_get xs k ≡ Some x → P x → (y : X) → slice_get xs k ≡ Some y → P y
of_each_there P xs k x at h y there = subst P (let same : x ≡ y = cc (at, there) in same) h

type_of_variable : (kind : ObjKind) (types : List Tree) (t : Tree) → Contains (variable_types kind types) t → Contains types t
type_of_variable Var types t h = h
type_of_variable kind types t h = absurd (contains_none t h)

-- a part of a spec has its nodes, and each of them its operands, among those of the spec
abbrev parts_in : Spec → List Tree
parts_in spec = spec.types ++ spec.values

operand_among : (spec : Spec) (t u : Tree) → Contains (expressions_in_parts spec) t → Contains (operands_of t) u → Contains (expressions_in_parts spec) u
operand_among spec t u h i =
    let part = flat_cases expressions_in (parts_in spec) t h in
    flat_contains expressions_in (parts_in spec) part.0 u part.1 (operand_in part.0 t u part.2 i)

type_among : (spec : Spec) (t : Tree) → Contains spec.types t → Contains (expressions_in_parts spec) t
type_among spec t h = flat_contains expressions_in (parts_in spec) t t (Contains-append_left spec.types spec.values t h) (self_in t)

module _ (naming : Naming) (headers : Headers) (outcomes : Outcomes) where
  abbrev read : Tree → OutcomeData RecData
  read = outcome_read outcomes

  abbrev over : Tree → OutcomeData RecData
  over = outcome naming headers

  module _ (nodes : List Tree) (walked : AreWalked naming headers nodes outcomes) where
    written_same : (t : Tree) → Contains nodes t → written_by read t ≡ written_by over t
    written_same t h = ap (λ (o : Option (OutcomeData RecData)). option_and_then type_in (record_in (unwrap_or o Nothing))) (walked t h)

    module _ (file : ℕ) (told_at : Option ℕ) where
      at_same : (demand : Demand) (at t : Tree) → Contains nodes t → owed_at read file told_at demand at t ≡ owed_at over file told_at demand at t
      at_same demand at t h =
          let one : TypeData → Owed = λ type. record { file = file; offset = unwrap_or told_at (start_of at); demand = demand; type = type } in
          ap (λ (o : Option TypeData). map one (option_to_list o)) (written_same t h)

      types_same : (types : List Tree) → ((t : Tree) → Contains types t → Contains nodes t) → owed_by_types read file told_at types ≡ owed_by_types over file told_at types
      types_same types inside =
          flat_map-same (λ t. owed_at read file told_at NoConstraint t t) (λ t. owed_at over file told_at NoConstraint t t) types (λ t h. at_same NoConstraint t t (inside t h))

      field_same : (kind : NodeKind) (field t : Tree) → Contains nodes t → owed_by_kind read file told_at kind field t ≡ owed_by_kind over file told_at kind field t
      field_same EmbeddedField field t h = at_same (Embeddable EmbeddedField) field t h
      field_same EmbeddedPointer field t h = at_same (Embeddable EmbeddedPointer) field t h
      field_same kind field t h = refl

      literal_same : (kind : NodeKind) (t : Tree) → Contains nodes t → ((u : Tree) → Contains (operands_of t) u → Contains nodes u) → owed_by_literal read file told_at kind t ≡ owed_by_literal over file told_at kind t
      literal_same StructType t h inside =
          let fields = list_of (parts_of t) in
          flat_map-same (λ (pair : Tree × Tree). owed_by_field read file told_at pair.0 pair.1) (λ pair. owed_by_field over file told_at pair.0 pair.1) (zip fields (operands_of t))
          (λ pair i. field_same (kind_of pair.0) pair.0 pair.1 (inside pair.1 (second_within fields (operands_of t) pair i)))
      literal_same InterfaceType t h inside = at_same OneTypeEach t t h
      literal_same kind t h inside = refl

      node_same : (t : Tree) → Contains nodes t → ((u : Tree) → Contains (operands_of t) u → Contains nodes u) → owed_by_node read file told_at t ≡ owed_by_node over file told_at t
      node_same t h inside =
          let own = literal_same (kind_of t) t h inside in
          let parts = types_same (components_of t) (λ u i. inside u (component_operand t u i)) in
          (λ i. own i ++ parts i)

    spec_same : (spec : Spec) → ((t : Tree) → Contains (expressions_in_parts spec) t → Contains nodes t) → owed_by_spec read spec ≡ owed_by_spec over spec
    spec_same spec inside =
        let types = types_same spec.file spec.told_at (variable_types spec.kind spec.types) (λ t h. inside t (type_among spec t (type_of_variable spec.kind spec.types t h))) in
        let within = flat_map-same (owed_by_node read spec.file spec.told_at) (owed_by_node over spec.file spec.told_at) (expressions_in_parts spec)
        (λ t h. node_same spec.file spec.told_at t (inside t h) (λ u i. inside u (operand_among spec t u h i))) in
        (λ i. types i ++ within i)

  -- of what the specs of a package have
  pub specs_same : (p : PackageData) → AreWalked naming headers (nodes_of p) outcomes → owed_by_specs read (specs_of p) ≡ owed_by_specs over (specs_of p)
  specs_same p walked =
      flat_map-same (owed_by_spec read) (owed_by_spec over) (specs_of p) (λ spec h. spec_same (nodes_of p) walked spec (λ t i. flat_contains expressions_in_parts (specs_of p) spec t h i))
