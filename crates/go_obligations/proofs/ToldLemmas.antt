-- What is told of a list of demands is what nodes, specs and a package break.
use Rattle.std.proofs.Common.{◌≡◌, ℕ, true, false, Option, Some, None, List, [], ◌++◌, ◌⊎◌, inl, inr, refl, sym, ap, ◌∙◌, subst, Contains, map}
use Rattle.std.specs.Prelude.{◌↔◌, option_to_list, unwrap_or}
use Rattle.std.specs.List.{flat_map, zip}
use Rattle.std.proofs.lemmas.List.Elements.{Contains-append_cases, Contains-append_left, Contains-append_right}
use Rattle.go_base.specs.declared.rule.Broken.{Broken}
use Rattle.go_base.specs.declared.rule.Rule.{Rule}
use Rattle.go_tree.specs.declared.node_kind.NodeKind.{NodeKind}
use Rattle.go_tree.specs.declared.node_kind.NodeKind.TheVariants.{EmbeddedField, EmbeddedPointer, InterfaceType, StructType}
use Rattle.go_tree.specs.Tree.{Tree, kind_of, list_of, parts_of, start_of}
use Rattle.go_module.specs.Broken.{broken_at}
use Rattle.go_module.specs.Modules.Module.{PackageData}
use Rattle.go_module.specs.Names.Declarations.{Spec, specs_of}
use Rattle.go_module.specs.Places.{with_number}
use Rattle.go_module.proofs.MemberLemmas.{contains_head, contains_none}
use Rattle.go_operands.specs.Operands.{expressions_in_parts, operands_of}
use Rattle.go_term.specs.Types.{TypeData}
use Rattle.go_model.specs.Obligations.Embedding.{may_be_embedded}
use Rattle.go_model.specs.Obligations.Obliged.{IsMisused, NodeBreaks, Obliged, SpecBreaks, component, components_of, embedding, methods, of_spec, variable, variable_types, within}
use Rattle.go_judge.specs.Judged.{OutcomeData}
use Rattle.go_judge.specs.Records.{RecData}
use Rattle.go_judge.specs.Headers.{Headers}
use Rattle.go_judge.specs.Quests.{Decided, run}
use Rattle.go_model.proofs.FlatLemmas.{flat_cases, flat_contains, map_cases, map_contains, only_is}
use Rattle.go_obligations.specs.declared.obligation.Demand.{Demand}
use Rattle.go_obligations.specs.declared.obligation.Demand.TheVariants.{Embeddable, NoConstraint, OneTypeEach}
use Rattle.go_obligations.specs.Owed.{Fails, IsTold, Owed, owed_at, owed_by_field, owed_by_kind, owed_by_literal, owed_by_node, owed_by_spec, owed_by_specs, owed_by_types, rule_of, told_of, written_by}

module _ (headers : Headers) where
  abbrev Told : List Owed → Broken → Type 0
  Told list b = IsTold headers list b

  -- LISTS

  told_within : (xs ys : List Owed) (b : Broken) → ((o : Owed) → Contains xs o → Contains ys o) → Told xs b → Told ys b
  told_within xs ys b inside h = record { owed = h.owed; among = inside h.owed h.among; fails = h.fails; told = h.told }

  told_left : (xs ys : List Owed) (b : Broken) → Told xs b → Told (xs ++ ys) b
  told_left xs ys b h = told_within xs (xs ++ ys) b (Contains-append_left xs ys) h

  told_right : (xs ys : List Owed) (b : Broken) → Told ys b → Told (xs ++ ys) b
  told_right xs ys b h = told_within ys (xs ++ ys) b (Contains-append_right xs ys) h

  told_either : (xs ys : List Owed) (b : Broken) → Told (xs ++ ys) b → Told xs b ⊎ Told ys b
  told_either xs ys b h = by_cases (Contains-append_cases xs ys h.owed h.among)
    where
      by_cases : Contains xs h.owed ⊎ Contains ys h.owed → Told xs b ⊎ Told ys b
      by_cases (inl here) = inl (record { owed = h.owed; among = here; fails = h.fails; told = h.told })
      by_cases (inr there) = inr (record { owed = h.owed; among = there; fails = h.fails; told = h.told })

  pub never_told : (b : Broken) → Told [] b → ⊥
  never_told b h = contains_none h.owed h.among

  told_flat : {X : Type 0} (f : X → List Owed) (xs : List X) (x : X) (b : Broken) → Contains xs x → Told (f x) b → Told (flat_map f xs) b
  told_flat f xs x b i h = told_within (f x) (flat_map f xs) b (λ o j. flat_contains f xs x o i j) h

  told_of_one : {X : Type 0} (f : X → List Owed) (xs : List X) (b : Broken) → Told (flat_map f xs) b → (x : X) × Contains xs x × Told (f x) b
  told_of_one f xs b h =
      let found = flat_cases f xs h.owed h.among in
      (found.0, found.1, record { owed = h.owed; among = found.2; fails = h.fails; told = h.told })

  module _ (outcome : Tree → OutcomeData RecData) where
    module _ (file : ℕ) (told_at : Option ℕ) where
      abbrev at_node : Tree → Rule → Broken
      at_node at rule = broken_at file (unwrap_or told_at (start_of at)) rule

      -- ONE DEMAND

      abbrev one : Demand → Tree → TypeData → Owed
      one demand at type = record { file = file; offset = unwrap_or told_at (start_of at); demand = demand; type = type }

      demand_told : (demand : Demand) (at t : Tree) (type : TypeData) → written_by outcome t ≡ Some type → Fails headers demand type → Told (owed_at outcome file told_at demand at t) (at_node at (rule_of demand))
      demand_told demand at t type is fails =
          subst (λ (o : Option TypeData). Told (map (one demand at) (option_to_list o)) (at_node at (rule_of demand))) (sym is)
          (record { owed = one demand at type; among = contains_head (one demand at type) [] (one demand at type) refl; fails = fails; told = refl })

      record Written (demand : Demand) (at t : Tree) (b : Broken) : Type 0 where
        type : TypeData
        is : written_by outcome t ≡ Some type
        fails : Fails headers demand type
        told : at_node at (rule_of demand) ≡ b

      demand_cases : (demand : Demand) (at t : Tree) (b : Broken) → Told (owed_at outcome file told_at demand at t) b → Written demand at t b
      demand_cases demand at t b h = by_type (written_by outcome t) refl h
        where
          by_type : (o : Option TypeData) → written_by outcome t ≡ o → Told (map (one demand at) (option_to_list o)) b → Written demand at t b
          by_type None is h = absurd (never_told b h)
          by_type (Some type) is h =
              let same : one demand at type ≡ h.owed = only_is (one demand at type) h.owed h.among in
              record { type = type; is = is; fails = subst (λ (o : Owed). Fails headers o.demand o.type) (sym same) h.fails; told = ap told_of same ∙ h.told }

      -- TYPES OF VARIABLES AND COMPONENTS

      misused_told : (types : List Tree) (t : Tree) → Contains types t → IsMisused outcome headers t → Told (owed_by_types outcome file told_at types) (at_node t (rule_of NoConstraint))
      misused_told types t i h =
          told_flat (λ t. owed_at outcome file told_at NoConstraint t t) types t (at_node t (rule_of NoConstraint)) i (demand_told NoConstraint t t h.type h.written h.is_constraint)

      record Misused (types : List Tree) (b : Broken) : Type 0 where
        type : Tree
        among : Contains types type
        misused : IsMisused outcome headers type
        told : at_node type (rule_of NoConstraint) ≡ b

      misused_cases : (types : List Tree) (b : Broken) → Told (owed_by_types outcome file told_at types) b → Misused types b
      misused_cases types b h =
          let found = told_of_one (λ t. owed_at outcome file told_at NoConstraint t t) types b h in
          let is = demand_cases NoConstraint found.0 found.0 b found.2 in
          record { type = found.0; among = found.1; misused = record { type = is.type; written = is.is; is_constraint = is.fails }; told = is.told }

      -- NODES

      field_told : (kind : NodeKind) (field t : Tree) (type : TypeData) → written_by outcome t ≡ Some type → run headers (may_be_embedded kind type) ≡ Decided false
          → Told (owed_by_kind outcome file told_at kind field t) (at_node field (rule_of (Embeddable kind)))
      field_told EmbeddedField field t type is fails = demand_told (Embeddable EmbeddedField) field t type is fails
      field_told EmbeddedPointer field t type is fails = demand_told (Embeddable EmbeddedPointer) field t type is fails
      field_told kind field t type is fails = absurd (let never : Decided true ≡ Decided false = fails in cc)

      field_cases : (kind : NodeKind) (field t : Tree) (b : Broken) → Told (owed_by_kind outcome file told_at kind field t) b → Written (Embeddable kind) field t b
      field_cases EmbeddedField field t b h = demand_cases (Embeddable EmbeddedField) field t b h
      field_cases EmbeddedPointer field t b h = demand_cases (Embeddable EmbeddedPointer) field t b h
      field_cases kind field t b h = absurd (never_told b h)

      abbrev literal : NodeKind → Tree → List Owed
      literal kind t = owed_by_literal outcome file told_at kind t

      abbrev of_pair : Tree × Tree → List Owed
      of_pair pair = owed_by_field outcome file told_at pair.0 pair.1

      literal_in_node : (t : Tree) (kind : NodeKind) (b : Broken) → kind_of t ≡ kind → Told (literal kind t) b → Told (owed_by_node outcome file told_at t) b
      literal_in_node t kind b is h =
          told_left (literal (kind_of t) t) (owed_by_types outcome file told_at (components_of t)) b (subst (λ (k : NodeKind). Told (literal k t) b) (sym is) h)

      node_told : (t at : Tree) (rule : Rule) → NodeBreaks outcome headers t at rule → Told (owed_by_node outcome file told_at t) (at_node at rule)
      node_told t at rule (embedding field type embedded is among written fails) =
          literal_in_node t StructType (at_node field (rule_of (Embeddable (kind_of field)))) is
          (told_flat of_pair (zip (list_of (parts_of t)) (operands_of t)) (field, type) (at_node field (rule_of (Embeddable (kind_of field)))) among (field_told (kind_of field) field type embedded written fails))
      node_told t at rule (component type among misused) =
          told_right (literal (kind_of t) t) (owed_by_types outcome file told_at (components_of t)) (at_node type (rule_of NoConstraint)) (misused_told (components_of t) type among misused)
      node_told t at rule (methods type is written two) =
          literal_in_node t InterfaceType (at_node t (rule_of OneTypeEach)) is (demand_told OneTypeEach t t type written two)

      -- what breaks something, as it is told
      record Breaks (Any : Tree → Rule → Type 0) (b : Broken) : Type 0 where
        at : Tree
        rule : Rule
        breaks : Any at rule
        told : at_node at rule ≡ b

      literal_cases : (t : Tree) (b : Broken) (kind : NodeKind) → kind_of t ≡ kind → Told (literal kind t) b → Breaks (NodeBreaks outcome headers t) b
      literal_cases t b StructType is h =
          let found = told_of_one of_pair (zip (list_of (parts_of t)) (operands_of t)) b h in
          let field = found.0.0 in
          let not_met = field_cases (kind_of field) field found.0.1 b found.2 in
          record { at = field; rule = rule_of (Embeddable (kind_of field)); breaks = embedding field found.0.1 not_met.type is found.1 not_met.is not_met.fails; told = not_met.told }
      literal_cases t b InterfaceType is h =
          let two = demand_cases OneTypeEach t t b h in
          record { at = t; rule = rule_of OneTypeEach; breaks = methods two.type is two.is two.fails; told = two.told }
      literal_cases t b kind is h = absurd (never_told b h)

      node_cases : (t : Tree) (b : Broken) → Told (owed_by_node outcome file told_at t) b → Breaks (NodeBreaks outcome headers t) b
      node_cases t b h = by_cases (told_either (literal (kind_of t) t) (owed_by_types outcome file told_at (components_of t)) b h)
        where
          by_cases : Told (literal (kind_of t) t) b ⊎ Told (owed_by_types outcome file told_at (components_of t)) b → Breaks (NodeBreaks outcome headers t) b
          by_cases (inl own) = literal_cases t b (kind_of t) refl own
          by_cases (inr parts) =
              let is = misused_cases (components_of t) b parts in
              record { at = is.type; rule = rule_of NoConstraint; breaks = component is.type is.among is.misused; told = is.told }

    -- SPECS

    abbrev types_told : Spec → List Owed
    types_told spec = owed_by_types outcome spec.file spec.told_at (variable_types spec.kind spec.types)

    abbrev nodes_told : Spec → List Owed
    nodes_told spec = flat_map (owed_by_node outcome spec.file spec.told_at) (expressions_in_parts spec)

    spec_told : (spec : Spec) (at : Tree) (rule : Rule) → SpecBreaks outcome headers spec at rule → Told (owed_by_spec outcome spec) (at_node spec.file spec.told_at at rule)
    spec_told spec at rule (variable type among misused) =
        told_left (types_told spec) (nodes_told spec) (at_node spec.file spec.told_at type (rule_of NoConstraint))
        (misused_told spec.file spec.told_at (variable_types spec.kind spec.types) type among misused)
    spec_told spec at rule (within t place told among breaks) =
        told_right (types_told spec) (nodes_told spec) (at_node spec.file spec.told_at place told)
        (told_flat (owed_by_node outcome spec.file spec.told_at) (expressions_in_parts spec) t (at_node spec.file spec.told_at place told) among (node_told spec.file spec.told_at t place told breaks))

    spec_cases : (spec : Spec) (b : Broken) → Told (owed_by_spec outcome spec) b → Breaks spec.file spec.told_at (SpecBreaks outcome headers spec) b
    spec_cases spec b h = by_cases (told_either (types_told spec) (nodes_told spec) b h)
      where
        by_cases : Told (types_told spec) b ⊎ Told (nodes_told spec) b → Breaks spec.file spec.told_at (SpecBreaks outcome headers spec) b
        by_cases (inl types) =
            let is = misused_cases spec.file spec.told_at (variable_types spec.kind spec.types) b types in
            record { at = is.type; rule = rule_of NoConstraint; breaks = variable is.type is.among is.misused; told = is.told }
        by_cases (inr nodes) =
            let found = told_of_one (owed_by_node outcome spec.file spec.told_at) (expressions_in_parts spec) b nodes in
            let is = node_cases spec.file spec.told_at found.0 b found.2 in
            record { at = is.at; rule = is.rule; breaks = within found.0 is.at is.rule found.1 is.breaks; told = is.told }

    -- A PACKAGE

    record Numbered (p : PackageData) (b : Broken) : Type 0 where
      found : Broken
      told : Told (owed_by_specs outcome (specs_of p)) found
      is : with_number p.files found ≡ b

    obliged_told : (p : PackageData) (b : Broken) → Obliged outcome headers p b → Numbered p b
    obliged_told p b (of_spec spec at rule among breaks) = record {
      found = at_node spec.file spec.told_at at rule;
      told = told_flat (owed_by_spec outcome) (specs_of p) spec (at_node spec.file spec.told_at at rule) among (spec_told spec at rule breaks);
      is = refl;
    }

    told_obliged : (p : PackageData) (b : Broken) → Numbered p b → Obliged outcome headers p b
    told_obliged p b h =
        let found = told_of_one (owed_by_spec outcome) (specs_of p) h.found h.told in
        let is = spec_cases found.0 h.found found.2 in
        subst (λ (x : Broken). Obliged outcome headers p x) (ap (with_number p.files) is.told ∙ h.is) (of_spec found.0 is.at is.rule found.1 is.breaks)

    -- what is told, with the numbers of files, is what the package breaks
    pub list_obliged : (p : PackageData) (list found : List Broken) → list ≡ map (with_number p.files) found → ((b : Broken) → Contains found b ↔ Told (owed_by_specs outcome (specs_of p)) b)
        → (b : Broken) → Contains list b ↔ Obliged outcome headers p b
    list_obliged p list found is exact b = (to, from)
      where
        to : Contains list b → Obliged outcome headers p b
        to h =
            let at = map_cases (with_number p.files) found b (subst (λ (l : List Broken). Contains l b) is h) in
            told_obliged p b (record { found = at.0; told = (exact at.0).0 at.1; is = at.2 })

        from : Obliged outcome headers p b → Contains list b
        from h =
            let one = obliged_told p b h in
            let there : Contains (map (with_number p.files) found) (with_number p.files one.found) = map_contains (with_number p.files) found one.found ((exact one.found).1 one.told) in
            subst (λ (l : List Broken). Contains l b) (sym is) (subst (λ (x : Broken). Contains (map (with_number p.files) found) x) one.is there)
