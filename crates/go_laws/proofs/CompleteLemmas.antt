-- Why an accepted package is complete: what has no header waits for what has none, and so on, and finitely many that do
-- so come back to one that waits for itself.
use Rattle.std.proofs.Common.{◌≡◌, ◌≢◌, ℕ, Bool, true, false, Option, Some, None, List, [], ◌∷◌, ◌++◌, ◌⊎◌, inl, inr, map, Contains, refl, sym, ap, ◌∙◌, subst}
use Rattle.std.specs.Prelude.{◌==◌, ◌&&◌, not, IsSome, length, option_and_then, slice_get, unwrap_or, if◌then◌else◌}
use Rattle.std.specs.Option.{option_map_or}
use Rattle.std.specs.List.{flat_map, list_all}
use Rattle.std.proofs.lemmas.List.Elements.{Contains-append_left, Contains-append_right}
use Rattle.go_base.specs.declared.rule.Broken.{Broken as BrokenRule}
use Rattle.go_base.specs.declared.rule.Rule.{Rule}
use Rattle.go_tree.specs.Tree.{Tree, start_of}
use Rattle.go_module.specs.Broken.{broken_at, told_if}
use Rattle.go_module.proofs.BrokenListLemmas.{none_found}
use Rattle.go_module.proofs.MemberLemmas.{contains_head, contains_tail}
use Rattle.go_module.specs.Modules.Module.{ModuleData, PackageData}
use Rattle.go_module.specs.Names.Declarations.{Declaration, Spec, by_itself, by_values, declarations_in, declarations_of, declared_by_kind, declared_in, number_of, pairs, rests_on, specs_of, with_list}
use Rattle.go_module.specs.Places.{with_number}
use Rattle.go_module.specs.declared.declaration.Built.TheVariants.{Itself}
use Rattle.go_module.specs.declared.object.ObjKind.{ObjKind}
use Rattle.go_module.specs.declared.object.ObjKind.TheVariants.{Alias, Const, Defined, Var}
use Rattle.go_operands.specs.Operands.{expressions_in}
use Rattle.go_judge.specs.declared.outcome.Spot.{Spot}
use Rattle.go_judge.specs.Kinds.{no_type, no_value}
use Rattle.go_judge.specs.Judged.{Broken, Found, Waits, OutcomeData}
use Rattle.go_judge.specs.Operands.{is_constant, is_type}
use Rattle.go_model.specs.Outcomes.Readings.{awaited_in, broken_spots, record_in}
use Rattle.go_judge.specs.Records.{HeaderData, RecData}
use Rattle.go_values.specs.Records.{declared_header, record_of, tells_by, told_by}
use Rattle.go_judge.specs.Headers.{Headers}
use Rattle.go_model.specs.Outcomes.Walk.{outcome}
use Rattle.go_report.specs.Phases.{HasHeaders, IsVerdict, sound}
use Rattle.go_report.specs.Report.{LineData, NamedData, accepted}
use Rattle.go_values.specs.ByValue.{broken_contained}
use Rattle.go_values.specs.Declared.{declared_as}
use Rattle.go_judge.specs.Naming.{Naming}
use Rattle.go_model.specs.Naming.{names_in}
use Rattle.go_values.specs.Rules.{are_unequal, broken_cycles, broken_in, broken_in_files, broken_node, broken_spec, broken_values, cyclic_at, has_record, others_by, others_by_kind, unequal_at, unequal_by_kind, unequal_sides}
use Rattle.go_values.specs.Waiting.{Chain, Waits as WaitsFor, awaited_by_nodes, more, one}
use Rattle.go_model.proofs.OutcomeExactLemmas.{outcome_exactly}
use Rattle.go_model.proofs.OutcomeLemmas.{outcome_stays}
use Rattle.go_same_laws.specs.Named.{AreGood}
use Rattle.go_laws.specs.Complete.{IsComplete, asked_in, parts_in}
use Rattle.go_laws.proofs.Asked.{AreAsked}
use Rattle.go_laws.proofs.Declaring.{AllGiveHeaders, GivesHeaders, constants_by_values}
use Rattle.go_laws.proofs.AskedLemmas.{IsGood, IsUnbroken, asked_are_expressions, each_good, self_asked}
use Rattle.go_laws.proofs.DenotedLemmas.{declared_by_number}
use Rattle.go_laws.proofs.Denoting.{MeansGood}
use Rattle.go_model.proofs.FlatLemmas.{flat_cases, flat_contains, map_cases}
use Rattle.go_laws.proofs.ListLemmas.{left_is_empty, map_is_empty, none_of_each, not_told, right_is_empty}
use Rattle.go_laws.proofs.GoodHeaderLemmas.{headers_good}
use Rattle.go_laws.proofs.MeantLemmas.{HasDeclaration}
use Rattle.go_laws.proofs.OperandNameLemmas.{self_expression}
use Rattle.go_laws.proofs.RecordLemmas.{awaited_good, constant_declared, record_fine}
use Rattle.go_laws.proofs.WalkLemmas.{no_walk}
use Rattle.go_laws.proofs.FollowLemmas.{all_numbers, base, declared_names, follows_known, number_in}
use Rattle.go_laws.proofs.SpecHeaderLemmas.{ByType, IsPair, of_alias, of_definition, of_variable, pair_is, type_declares, type_needed, type_tells, type_told}

some_spots : (naming : Naming) (headers : Headers) (t : Tree) (rule : Rule) (spots : List Spot) → outcome naming headers t ≡ Broken rule spots → spots ≢ []
some_spots naming headers t rule spots e = (((outcome_exactly naming headers t).broken rule spots).0 e).some

holds_by : (holds : Bool) → not holds ≡ false → holds ≡ true
holds_by true e = refl
holds_by false e = absurd (let never : true ≡ false = e in cc)

-- of the specs of an accepted package
module _ (before : Headers) (naming : Naming) (specs : List Spec) (give : AllGiveHeaders specs) (headers : Headers) (cyclic : ℕ → Bool)
    (has : HasHeaders before naming (declarations_in specs) headers cyclic)
    (no_cycles : broken_cycles cyclic (declarations_in specs) ≡ [])
    (no_broken : flat_map (broken_spec naming headers) specs ≡ [])
    (good : ℕ → Type 0) (cause : (n : ℕ) → good n → HasDeclaration (declarations_in specs) n ⊎ IsSome (before n))
    (means : MeansGood naming good) (known : AreGood good headers)
    (asked : AreAsked naming (flat_map (λ spec. spec.types ++ spec.values) specs)) where
  abbrev all : List Declaration
  all = declarations_in specs

  -- RECORDS

  abbrev parts : Spec → List Tree
  parts spec = spec.types ++ spec.values

  abbrev found : Tree → OutcomeData RecData
  found t = outcome naming headers t

  -- what a spec breaks beside R37
  abbrev broken_others : Spec → List BrokenRule
  broken_others spec = others_by_kind found spec.kind spec spec.types spec.values

  abbrev broken_parts : Spec → List BrokenRule
  broken_parts spec = flat_map (broken_in spec.file spec.told_at naming headers) (parts spec)

  spec_sound : (spec : Spec) → Contains specs spec → broken_others spec ++ broken_parts spec ≡ []
  spec_sound spec is = right_is_empty (unequal_at naming headers spec) (broken_others spec ++ broken_parts spec) (none_of_each (broken_spec naming headers) specs no_broken spec is)

  unbroken : (spec : Spec) → Contains specs spec → (t : Tree) → Contains (parts spec) t → (s : Tree) → Contains (expressions_in t) s → IsUnbroken naming headers s
  unbroken spec is t among s inside rule spots e =
      let none = right_is_empty (broken_others spec) (broken_parts spec) (spec_sound spec is) in
      let part = none_of_each (broken_in spec.file spec.told_at naming headers) (parts spec) none t among in
      let node = none_of_each (broken_node spec.file spec.told_at naming headers) (expressions_in t) part s inside in
      some_spots naming headers s rule spots e (map_is_empty _ spots (ap (broken_spots spec.file spec.told_at s) (sym e) ∙ node))

  -- what the record of a part says that is needed there
  needed_says : (rule : Rule) (needed : RecData → Bool) (spec : Spec) (ts : List Tree) → others_by found rule needed spec ts ≡ [] → (t : Tree) → Contains ts t → (r : RecData) → found t ≡ Found r → needed r ≡ true
  needed_says rule needed spec ts none t among r is =
      let told = λ (x : Tree). told_if (has_record found (λ v. not (needed v)) x) (broken_at spec.file (unwrap_or spec.told_at (start_of x)) rule) in
      let other = not_told (has_record found (λ v. not (needed v)) t) (broken_at spec.file (unwrap_or spec.told_at (start_of t)) rule) (none_of_each told ts none t among) in
      holds_by (needed r) (ap (λ x. option_map_or (λ v. not (needed v)) (record_in x) false) (sym is) ∙ other)

  -- by R1 the record of a value is that of a constant
  value_constant : (spec : Spec) → Contains specs spec → spec.kind ≡ Const → (t : Tree) → Contains spec.values t → (r : RecData) → found t ≡ Found r → is_constant r ≡ true
  value_constant spec is kind =
      needed_says no_value is_constant spec spec.values
      (ap (λ k. others_by_kind found k spec spec.types spec.values) (sym kind) ∙ left_is_empty (broken_others spec) (broken_parts spec) (spec_sound spec is))

  -- by C13 that of a type is that of a type
  type_type : (spec : Spec) → Contains specs spec → others_by_kind found spec.kind spec spec.types spec.values ≡ others_by found no_type is_type spec spec.types
      → (t : Tree) → Contains spec.types t → (r : RecData) → found t ≡ Found r → is_type r ≡ true
  type_type spec is kind = needed_says no_type is_type spec spec.types (sym kind ∙ left_is_empty (broken_others spec) (broken_parts spec) (spec_sound spec is))

  unbroken_good : (spec : Spec) → Contains specs spec → (t : Tree) → Contains (parts spec) t → (s : Tree) → Contains (asked_in naming t) s → IsGood naming headers (found s)
  unbroken_good spec is t among s h =
      each_good naming headers t (λ r there. (asked t (flat_contains parts specs spec t is among) r there, unbroken spec is t among r (asked_are_expressions naming t r there))) s h

  -- WHAT HAS NO HEADER

  record Lacking (n : ℕ) : Type 0 where
    pub missing : headers n ≡ None
    pub declaration : Declaration
    pub declared : declared_as all n ≡ Some declaration

  own : (n : ℕ) → HasDeclaration all n ⊎ IsSome (before n) → headers n ≡ None → HasDeclaration all n
  own n (inl declared) missing = declared
  own n (inr some) missing = absurd (none_before (before n) refl some)
    where
      none_before : (o : Option HeaderData) → before n ≡ o → IsSome o → ⊥
      none_before None e is = let never : false ≡ true = is in cc
      none_before (Some h) e is = let never : Some h ≡ None = sym (base before naming all headers cyclic has n h e) ∙ missing in cc

  waits_lack : (t : Tree) (n : ℕ) → found t ≡ Waits n → Lacking n
  waits_lack t n e =
      let missing = (outcome_stays naming headers headers (λ _ _ q. q) t).lacks n e in
      let is = own n (cause n (awaited_good naming good means headers known t n e)) missing in
      record { missing = missing; declaration = is.0; declared = is.1 }

  -- WAITS

  record Next (n : ℕ) : Type 0 where
    pub other : ℕ
    pub lacking : Lacking other
    pub waits : WaitsFor naming all headers n other

  -- by a type or an expression that a declaration rests on
  next_by : (n : ℕ) (d : Declaration) → declared_as all n ≡ Some d → (t : Tree) → Contains (rests_on d) t → (e : ℕ) → found t ≡ Waits e → Next n
  next_by n d declared t among e waits =
      let here : Contains (awaited_in (found t)) e = subst (λ (x : OutcomeData RecData). Contains (awaited_in x) e) (sym waits) (contains_head e [] e refl) in
      let node = flat_contains (λ node. awaited_in (found node)) (expressions_in t) t e (self_expression t) here in
      record {
        other = e;
        lacking = waits_lack t e waits;
        waits = record { declaration = d; declared = declared; awaits = flat_contains (awaited_by_nodes naming headers) (rests_on d) t e among node };
      }

  record AWait (trees : List Tree) : Type 0 where
    pub tree : Tree
    pub among : Contains trees tree
    pub number : ℕ
    pub waits : found tree ≡ Waits number

  all_or_wait : (trees : List Tree) → ((t : Tree) → Contains trees t → IsGood naming headers (found t)) → ((t : Tree) → Contains trees t → (r : RecData) → found t ≡ Found r → is_constant r ≡ true)
      → (list_all (has_record found is_constant) trees ≡ true) ⊎ AWait trees
  all_or_wait [] each constant = inl refl
  all_or_wait (t ∷ trees) each constant = by_outcome (each t (contains_head t trees t refl)) (all_or_wait trees (λ s there. each s (contains_tail t trees s there)) (λ s there. constant s (contains_tail t trees s there)))
    where
      by_outcome : IsGood naming headers (found t) → (list_all (has_record found is_constant) trees ≡ true) ⊎ AWait trees → (list_all (has_record found is_constant) (t ∷ trees) ≡ true) ⊎ AWait (t ∷ trees)
      by_outcome (inr waits) rest = inr (record { tree = t; among = contains_head t trees t refl; number = waits.0; waits = waits.1 })
      by_outcome (inl is) (inr w) = inr (record { tree = w.tree; among = contains_tail t trees w.tree w.among; number = w.number; waits = w.waits })
      by_outcome (inl is) (inl rest) =
          let says : has_record found is_constant t ≡ true = ap (λ x. option_map_or is_constant (record_in x) false) is.1 ∙ constant t (contains_head t trees t refl) is.0 is.1 in
          inl (ap (λ b. b && list_all (has_record found is_constant) trees) says ∙ rest)

  -- a declaration waits where its header would follow from the record of a node that it rests on
  module _ (n : ℕ) (l : Lacking n) where
    abbrev own_kind : ObjKind
    own_kind = l.declaration.kind

    told_or_waits : (t : Tree) → Contains (rests_on l.declaration) t → IsGood naming headers (found t) → tells_by own_kind l.declaration.built l.declaration.types l.declaration.values ≡ Some t
        → ((r : RecData) → found t ≡ Found r → (h : HeaderData) × (told_by own_kind r ≡ Some h)) → Next n
    told_or_waits t rests (inr waits) tells told = next_by n l.declaration l.declared t rests waits.0 waits.1
    told_or_waits t rests (inl is) tells told =
        let header = told is.0 is.1 in
        absurd (follows_known before naming all headers cyclic has n l.declaration header.0 l.declared l.missing
        (ap (λ u. option_and_then (told_by own_kind) (option_and_then (record_of naming headers) u)) tells
        ∙ ap (λ x. option_and_then (told_by own_kind) (record_in x)) is.1
        ∙ header.1))

    -- of a spec of constants
    module _ (spec : Spec) (is : Contains specs spec) (kind : spec.kind ≡ Const) where
      value_part : (t : Tree) → Contains spec.values t → Contains (parts spec) t
      value_part t among = Contains-append_right spec.types spec.values t among

      rests : (values : List Tree) → l.declaration.values ≡ values → (t : Tree) → Contains values t → Contains (rests_on l.declaration) t
      rests values same t among = Contains-append_right l.declaration.types l.declaration.values t (subst (λ (vs : List Tree). Contains vs t) (sym same) among)

      paired : IsPair spec spec.values l.declaration → Next n
      paired p =
          told_or_waits p.value (rests (p.value ∷ []) p.values_are p.value (contains_head p.value [] p.value refl))
          (unbroken_good spec is p.value (value_part p.value p.among) p.value (self_asked naming p.value))
          (λ i. tells_by (constant i) (p.built i) l.declaration.types (p.values_are i))
          (λ r recorded. told r (constant_declared r (record_fine naming good means headers known p.value r recorded).1 (value_constant spec is kind p.value p.among r recorded)))
        where
          constant : own_kind ≡ Const
          constant = p.kind ∙ kind

          told : (r : RecData) → (h : HeaderData) × (declared_header r ≡ Some h) → (h : HeaderData) × (told_by own_kind r ≡ Some h)
          told r header = (header.0, ap (λ k. told_by k r) constant ∙ header.1)

      listed : (length spec.names == length spec.values) ≡ false → l.declaration.values ≡ spec.values → Next n
      listed unequal values =
          by_records (all_or_wait spec.values (λ t among. unbroken_good spec is t (value_part t among) t (self_asked naming t)) (λ t among. value_constant spec is kind t among))
        where
          by_records : (list_all (has_record found is_constant) spec.values ≡ true) ⊎ AWait spec.values → Next n
          by_records (inl recorded) =
              let broken : are_unequal naming headers spec.names spec.values ≡ true = (λ i. not (unequal i) && recorded i) in
              let told = broken_at spec.file (start_of spec.node) unequal_sides in
              let none = left_is_empty (unequal_at naming headers spec) _ (none_of_each (broken_spec naming headers) specs no_broken spec is) in
              let of_constants : told_if (are_unequal naming headers spec.names spec.values) told ≡ [] = ap (λ k. unequal_by_kind found k spec) (sym kind) ∙ none in
              absurd (let never : told ∷ [] ≡ [] = ap (λ b. told_if b told) (sym broken) ∙ of_constants in cc)
          by_records (inr w) = next_by n l.declaration l.declared w.tree (rests spec.values values w.tree w.among) w.number w.waits

      by_sides : (b : Bool) → (length spec.names == length spec.values) ≡ b → Contains (by_values spec) l.declaration → Next n
      by_sides true e h = paired (pair_is spec spec.names spec.values l.declaration (subst (λ c. Contains (if c then pairs spec spec.names spec.values else map (with_list spec) spec.names) l.declaration) e h))
      by_sides false e h =
          let from = map_cases (with_list spec) spec.names l.declaration (subst (λ c. Contains (if c then pairs spec spec.names spec.values else map (with_list spec) spec.names) l.declaration) e h) in
          listed e (ap (λ (d : Declaration). d.values) (sym from.2))

      of_values : Contains (declared_in spec) l.declaration → Next n
      of_values among = by_sides (length spec.names == length spec.values) refl (subst (λ ds. Contains ds l.declaration) (constants_by_values spec kind) among)

    -- of a spec of variables, types or aliases, behind whose names this type stands first
    of_types : (spec : Spec) → Contains specs spec → (kind : ObjKind) → ByType kind → spec.kind ≡ kind → (t : Tree) (ts : List Tree) → spec.types ≡ t ∷ ts → Contains (declared_in spec) l.declaration → Next n
    of_types spec is kind by_type same t ts types among =
        let from = map_cases (by_itself spec) spec.names l.declaration (subst (λ ds. Contains ds l.declaration) ((λ i. declared_by_kind (same i) (types i) spec) ∙ type_declares by_type t ts spec) among) in
        let own : own_kind ≡ kind = ap (λ (d : Declaration). d.kind) (sym from.2) ∙ same in
        let built : l.declaration.built ≡ Itself = ap (λ (d : Declaration). d.built) (sym from.2) in
        let own_types : l.declaration.types ≡ t ∷ ts = ap (λ (d : Declaration). d.types) (sym from.2) ∙ types in
        let here : Contains spec.types t = subst (λ (us : List Tree). Contains us t) (sym types) (contains_head t ts t refl) in
        let rests : Contains l.declaration.types t = subst (λ (us : List Tree). Contains us t) (sym own_types) (contains_head t ts t refl) in
        let others = ap (λ k. others_by_kind found k spec spec.types spec.values) same ∙ type_needed found by_type spec spec.types spec.values in
        told_or_waits t (Contains-append_left l.declaration.types l.declaration.values t rests)
        (unbroken_good spec is t (Contains-append_left spec.types spec.values t here) t (self_asked naming t))
        ((λ i. tells_by (own i) (built i) (own_types i) l.declaration.values) ∙ type_tells by_type t ts l.declaration.values)
        (λ r recorded. (let told = type_told by_type r (type_type spec is others t here r recorded) in (told.0, ap (λ k. told_by k r) own ∙ told.1)))

    with_type : (spec : Spec) → Contains specs spec → (kind : ObjKind) → ByType kind → spec.kind ≡ kind → (types : List Tree) → spec.types ≡ types → IsSome (slice_get types 0) → Contains (declared_in spec) l.declaration → Next n
    with_type spec is kind by_type same [] types some among = absurd (let never : false ≡ true = some in cc)
    with_type spec is kind by_type same (t ∷ ts) types some among = of_types spec is kind by_type same t ts types among

    of_kind : (spec : Spec) → Contains specs spec → (kind : ObjKind) → spec.kind ≡ kind → GivesHeaders kind spec.types → Contains (declared_in spec) l.declaration → Next n
    of_kind spec is Const same gives among = of_values spec is same among
    of_kind spec is Var same gives among = with_type spec is Var of_variable same spec.types refl gives among
    of_kind spec is Defined same gives among = with_type spec is Defined of_definition same spec.types refl gives among
    of_kind spec is Alias same gives among = with_type spec is Alias of_alias same spec.types refl gives among
    of_kind spec is other same gives among = absurd gives

    next : Next n
    next =
        let is = declared_names all n l.declaration l.declared in
        let from = flat_cases declared_in specs l.declaration is.among in
        of_kind from.0 from.1 from.0.kind refl (give from.0 from.1) from.2

  no_return : (n : ℕ) → Lacking n → Chain naming all headers n n → ⊥
  no_return n l chain =
      let is = declared_names all n l.declaration l.declared in
      let marked : cyclic (number_of l.declaration).0 ≡ true = ap cyclic is.number ∙ (has.is_cyclic n).1 chain in
      let none = none_of_each (λ d. cyclic_at (cyclic (number_of d).0) d) all no_cycles l.declaration is.among in
      let never = ap (λ b. cyclic_at b l.declaration) (sym marked) ∙ none in cc never

  none_lacks : (n : ℕ) → Lacking n → ⊥
  none_lacks n l =
      no_walk Lacking (WaitsFor naming all headers) (Chain naming all headers)
      (λ a b w. one b w) (λ a b c way w. more b c way w)
      no_return
      (λ a o. (let there = next a o in (there.other, there.lacking, there.waits)))
      (all_numbers all) n l
      (λ i o. (let is = declared_names all i o.declaration o.declared in number_in all o.declaration is.among i is.number))

  -- CONCLUSION

  pub each_declared : (d : Declaration) → Contains all d → IsSome (headers (number_of d).0)
  each_declared d among = by_header (headers (number_of d).0) refl
    where
      by_header : (o : Option HeaderData) → headers (number_of d).0 ≡ o → IsSome o
      by_header (Some h) e = refl
      by_header None e = absurd (let first = declared_by_number all d among in none_lacks (number_of d).0 (record { missing = e; declaration = first.0; declared = first.1 }))

  pub each_recorded : (t : Tree) → Contains (flat_map (λ spec. spec.types ++ spec.values) specs) t → (s : Tree) → Contains (asked_in naming t) s → IsSome (record_of naming headers s)
  each_recorded t among s h =
      let from = flat_cases parts specs t among in
      by_outcome (unbroken_good from.0 from.1 t from.2 s h)
    where
      by_outcome : IsGood naming headers (found s) → IsSome (record_of naming headers s)
      by_outcome (inl is) = subst (λ (x : OutcomeData RecData). IsSome (record_in x)) (sym is.1) refl
      by_outcome (inr waits) = absurd (none_lacks waits.0 (waits_lack s waits.0 waits.1))

-- an accepted package whose specs give headers, and of which something is asked at each node that is asked for a record, is
-- complete, where all that its types can name has a header or is a declaration of the package
pub complete_where_asked : (m : ModuleData) (k : ℕ) (p : PackageData) (before after : Headers) (lines : List LineData) (names : List NamedData)
    → IsVerdict m k p before (accepted lines names) after → AllGiveHeaders (specs_of p)
    → (good : ℕ → Type 0) → ((n : ℕ) → good n → HasDeclaration (declarations_of p) n ⊎ IsSome (before n)) → MeansGood (names_in m k p) good → AreGood good before
    → AreAsked (names_in m k p) (parts_in p) → IsComplete (names_in m k p) after p
complete_where_asked m k p before after lines names (sound headers _ breaks _) give good cause means known asked =
    let naming = names_in m k p in
    let values = broken_values naming headers breaks.cyclic p in
    let rest = broken_contained breaks.contained p ++ breaks.obliged in
    let none = map_is_empty (with_number p.files) (broken_in_files naming headers breaks.cyclic p) (left_is_empty values rest (none_found (values ++ rest) breaks.is_list)) in
    let no_cycles = left_is_empty (broken_cycles breaks.cyclic (declarations_of p)) (flat_map (broken_spec naming headers) (specs_of p)) none in
    let no_broken = right_is_empty (broken_cycles breaks.cyclic (declarations_of p)) (flat_map (broken_spec naming headers) (specs_of p)) none in
    let all_known = headers_good naming good means before known (declarations_of p) headers breaks.cyclic breaks.has_headers in
    record {
      declared = each_declared before naming (specs_of p) give headers breaks.cyclic breaks.has_headers no_cycles no_broken good cause means all_known asked;
      recorded = each_recorded before naming (specs_of p) give headers breaks.cyclic breaks.has_headers no_cycles no_broken good cause means all_known asked;
    }
