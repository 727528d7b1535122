-- What is read off the outcomes of nodes that were walked is what their outcomes over the headers say.
use Rattle.std.proofs.Common.{◌≡◌, ℕ, Bool, true, false, Option, List, [], ◌∷◌, ◌++◌, Contains, length, map, refl, sym, ap, subst, ⊎_elim, ◌∙◌}
use Rattle.std.specs.Prelude.{◌==◌, ◌&&◌, not, option_and_then, slice_get, unwrap_or, if◌then◌else◌}
use Rattle.std.specs.Option.{option_map_or}
use Rattle.go_base.specs.declared.rule.Broken.{Broken}
use Rattle.go_base.specs.declared.rule.Rule.{Rule}
use Rattle.std.specs.List.{flat_map, list_all}
use Rattle.std.proofs.lemmas.List.Elements.{Contains-append_cases, Contains-append_left, Contains-append_right}
use Rattle.go_tree.specs.Tree.{Tree, branch, start_of}
use Rattle.go_module.specs.Broken.{broken_at, told_if}
use Rattle.go_module.specs.declared.declaration.Built.{Built}
use Rattle.go_module.specs.declared.declaration.Built.TheVariants.{Itself, Pair, WholeList}
use Rattle.go_module.specs.declared.object.ObjKind.{ObjKind}
use Rattle.go_module.specs.declared.object.ObjKind.TheVariants.{Alias, Const, Defined, Var}
use Rattle.go_module.specs.Modules.Module.{PackageData}
use Rattle.go_module.specs.Names.Declarations.{Declaration, Spec, by_itself, by_values, declarations_in, declarations_of, declared_by_kind, declared_in, pairs, rests_on, specs_of, with_list}
use Rattle.go_operands.specs.Operands.{expressions_in, expressions_in_parts}
use Rattle.go_module.proofs.MemberLemmas.{cons_cases, contains_head, contains_none, contains_tail}
use Rattle.go_judge.specs.Naming.{Naming}
use Rattle.go_judge.specs.Judged.{OutcomeData}
use Rattle.go_model.specs.Outcomes.Readings.{broken_spots, record_by, record_in}
use Rattle.go_judge.specs.Records.{RecData}
use Rattle.go_judge.specs.Kinds.{no_type, no_value}
use Rattle.go_judge.specs.Operands.{is_constant, is_type}
use Rattle.go_judge.specs.Headers.{Headers, Outcomes}
use Rattle.go_model.specs.Outcomes.Walk.{outcome}
use Rattle.go_model.specs.Outcomes.Walked.{AreWalked, nodes_of}
use Rattle.go_values.specs.Records.{header_by, header_over, record_of, tells_by, told_by}
use Rattle.go_values.specs.Rules.{broken_by, broken_in, broken_node, broken_spec, broken_spec_by, has_record, others_by, others_by_kind, unequal_at, unequal_by, unequal_by_kind, unequal_sides}
use Rattle.go_model.proofs.FlatLemmas.{flat_cases, flat_contains, flat_map-same, map_cases, only_is}
use Rattle.go_expr.specs.Read.{nodes_under, outcome_read}
use Rattle.go_expr.proofs.ReadLemmas.{read_is}
use Rattle.go_decl.specs.Parts.{broken_under, unequal_for}

-- a node is a node in itself
self_in : (t : Tree) → Contains (expressions_in t) t
self_in (branch id from to kind text parts) = contains_head (branch id from to kind text parts) _ (branch id from to kind text parts) refl

list_all-same : {X : Type 0} (f g : X → Bool) (xs : List X) → ((x : X) → Contains xs x → f x ≡ g x) → list_all f xs ≡ list_all g xs
list_all-same f g [] same = refl
list_all-same f g (x ∷ xs) same = (λ i. same x (contains_head x xs x refl) i && list_all-same f g xs (λ y h. same y (contains_tail x xs y h)) i)

-- WHERE THE PARTS OF A DECLARATION STAND

in_pairs : (spec : Spec) (names values : List Tree) → ((v : Tree) → Contains values v → Contains spec.values v) → (d : Declaration) → Contains (pairs spec names values) d → (x : Tree) → Contains (rests_on d) x → Contains (spec.types ++ spec.values) x
in_pairs spec [] values within d h x i = absurd (contains_none d h)
in_pairs spec (n ∷ names) [] within d h x i = absurd (contains_none d h)
in_pairs spec (n ∷ names) (v ∷ values) within d h x i =
    let first : Declaration = record { file = spec.file; kind = spec.kind; name = n; types = spec.types; values = v ∷ []; built = Pair } in
    ⊎_elim
    (λ (here : first ≡ d). own (subst (λ (e : Declaration). Contains (rests_on e) x) (sym here) i))
    (λ (there : Contains (pairs spec names values) d). in_pairs spec names values (λ w k. within w (contains_tail v values w k)) d there x i)
    (cons_cases first (pairs spec names values) d h)
  where
    own : Contains (spec.types ++ v ∷ []) x → Contains (spec.types ++ spec.values) x
    own j =
        ⊎_elim
        (λ (type : Contains spec.types x). Contains-append_left spec.types spec.values x type)
        (λ (value : Contains (v ∷ []) x). Contains-append_right spec.types spec.values x (subst (λ (w : Tree). Contains spec.values w) (only_is v x value) (within v (contains_head v values v refl))))
        (Contains-append_cases spec.types (v ∷ []) x j)

-- by its values, or by itself
abbrev Within : Spec → Declaration → Type 0
Within spec d = (x : Tree) → Contains (rests_on d) x → Contains (spec.types ++ spec.values) x

values_within : (spec : Spec) (d : Declaration) → Contains (by_values spec) d → Within spec d
values_within spec d h x i = by_test (length spec.names == length spec.values) h
  where
    by_test : (b : Bool) → Contains (if b then pairs spec spec.names spec.values else map (with_list spec) spec.names) d → Contains (spec.types ++ spec.values) x
    by_test true j = in_pairs spec spec.names spec.values (λ v k. k) d j x i
    by_test false j =
        let name = map_cases (with_list spec) spec.names d j in
        subst (λ (e : Declaration). Contains (rests_on e) x) (sym name.2) i

itself_within : (spec : Spec) (d : Declaration) → Contains (map (by_itself spec) spec.names) d → Within spec d
itself_within spec d h x i =
    let name = map_cases (by_itself spec) spec.names d h in
    ⊎_elim
    (λ (type : Contains spec.types x). Contains-append_left spec.types spec.values x type)
    (λ (none : Contains [] x). absurd (contains_none x none))
    (Contains-append_cases spec.types [] x (subst (λ (e : Declaration). Contains (rests_on e) x) (sym name.2) i))

within_by_kind : (kind : ObjKind) (types : List Tree) (spec : Spec) (d : Declaration) → Contains (declared_by_kind kind types spec) d → Within spec d
within_by_kind Const types spec d h = values_within spec d h
within_by_kind Var [] spec d h = values_within spec d h
within_by_kind Var (type ∷ types) spec d h = itself_within spec d h
within_by_kind kind types spec d h = itself_within spec d h

rests_within : (spec : Spec) (d : Declaration) → Contains (declared_in spec) d → Within spec d
rests_within spec d h = within_by_kind spec.kind spec.types spec d h

pairs_built : (spec : Spec) (names values : List Tree) (d : Declaration) → Contains (pairs spec names values) d → d.built ≡ Pair
pairs_built spec [] values d h = absurd (contains_none d h)
pairs_built spec (n ∷ names) [] d h = absurd (contains_none d h)
pairs_built spec (n ∷ names) (v ∷ values) d h =
    let first : Declaration = record { file = spec.file; kind = spec.kind; name = n; types = spec.types; values = v ∷ []; built = Pair } in
    ⊎_elim
    (λ (here : first ≡ d). sym (ap (λ (e : Declaration). e.built) here))
    (λ (there : Contains (pairs spec names values) d). pairs_built spec names values d there)
    (cons_cases first (pairs spec names values) d h)

-- a declaration to which the whole list belongs rests on all expressions of its spec
values_whole : (spec : Spec) (d : Declaration) → Contains (by_values spec) d → d.built ≡ WholeList → spec.values ≡ d.values
values_whole spec d h is = by_test (length spec.names == length spec.values) h
  where
    by_test : (b : Bool) → Contains (if b then pairs spec spec.names spec.values else map (with_list spec) spec.names) d → spec.values ≡ d.values
    by_test true j = absurd (let never : Pair ≡ WholeList = sym (pairs_built spec spec.names spec.values d j) ∙ is in cc)
    by_test false j =
        let name = map_cases (with_list spec) spec.names d j in
        ap (λ (e : Declaration). e.values) name.2

itself_built : (spec : Spec) (d : Declaration) → Contains (map (by_itself spec) spec.names) d → d.built ≡ WholeList → ⊥
itself_built spec d h is =
    let name = map_cases (by_itself spec) spec.names d h in
    let never : Itself ≡ WholeList = ap (λ (e : Declaration). e.built) name.2 ∙ is in cc

whole_by_kind : (kind : ObjKind) (types : List Tree) (spec : Spec) (d : Declaration) → Contains (declared_by_kind kind types spec) d → d.built ≡ WholeList → spec.values ≡ d.values
whole_by_kind Const types spec d h is = values_whole spec d h is
whole_by_kind Var [] spec d h is = values_whole spec d h is
whole_by_kind Var (type ∷ types) spec d h is = absurd (itself_built spec d h is)
whole_by_kind kind types spec d h is = absurd (itself_built spec d h is)

whole_list : (spec : Spec) (d : Declaration) → Contains (declared_in spec) d → d.built ≡ WholeList → spec.values ≡ d.values
whole_list spec d h is = whole_by_kind spec.kind spec.types spec d h is

pub declared_within : (spec : Spec) (d : Declaration) → Contains (declared_in spec) d → (t : Tree) → Contains (nodes_under d) t → Contains (expressions_in_parts spec) t
declared_within spec d h t i =
    let part = flat_cases expressions_in (rests_on d) t i in
    flat_contains expressions_in (spec.types ++ spec.values) part.0 t (rests_within spec d h part.0 part.1) part.2

-- the nodes of the declarations of specs are among those of the specs
pub declarations_within : (specs : List Spec) (d : Declaration) → Contains (declarations_in specs) d → (t : Tree) → Contains (nodes_under d) t → Contains (flat_map expressions_in_parts specs) t
declarations_within specs d h t i =
    let spec = flat_cases declared_in specs d h in
    flat_contains expressions_in_parts specs spec.0 t spec.1 (declared_within spec.0 d spec.2 t i)

module _ (naming : Naming) (headers : Headers) (outcomes : Outcomes) where
  abbrev read : Tree → OutcomeData RecData
  read = outcome_read outcomes

  -- among nodes that were walked
  module _ (nodes : List Tree) (walked : AreWalked naming headers nodes outcomes) where
    is : (t : Tree) → Contains nodes t → read t ≡ outcome naming headers t
    is t h = read_is naming headers nodes outcomes walked t h

    part_same : (file : ℕ) (told : Option ℕ) (x : Tree) → ((t : Tree) → Contains (expressions_in x) t → Contains nodes t) → broken_by read file told x ≡ broken_in file told naming headers x
    part_same file told x within = flat_map-same (λ node. broken_spots file told node (read node)) (broken_node file told naming headers) (expressions_in x) (λ t h. ap (broken_spots file told t) (is t (within t h)))

    record_same : (x : Tree) → ((t : Tree) → Contains (expressions_in x) t → Contains nodes t) → record_by read x ≡ record_of naming headers x
    record_same x within = ap record_in (is x (within x (self_in x)))

    each_same : (file : ℕ) (told : Option ℕ) (xs : List Tree) → ((x : Tree) → Contains xs x → (t : Tree) → Contains (expressions_in x) t → Contains nodes t) → flat_map (broken_by read file told) xs ≡ flat_map (broken_in file told naming headers) xs
    each_same file told xs inside = flat_map-same (broken_by read file told) (broken_in file told naming headers) xs (λ x h. part_same file told x (inside x h))

    says_same : (says : RecData → Bool) (x : Tree) → ((t : Tree) → Contains (expressions_in x) t → Contains nodes t) → has_record read says x ≡ has_record (outcome naming headers) says x
    says_same says x within = ap (λ (r : Option RecData). option_map_or says r false) (record_same x within)

    others_same : (rule : Rule) (needed : RecData → Bool) (spec : Spec) (xs : List Tree) → ((x : Tree) → Contains xs x → (t : Tree) → Contains (expressions_in x) t → Contains nodes t) → others_by read rule needed spec xs ≡ others_by (outcome naming headers) rule needed spec xs
    others_same rule needed spec xs inside =
        let at : Tree → Broken = λ x. broken_at spec.file (unwrap_or spec.told_at (start_of x)) rule in
        let told : (Tree → OutcomeData RecData) → Tree → List Broken = λ o x. told_if (has_record o (λ r. not (needed r)) x) (at x) in
        flat_map-same (told read) (told (outcome naming headers)) xs (λ x h. ap (λ b. told_if b (at x)) (says_same (λ r. not (needed r)) x (inside x h)))

    others_kind_same : (kind : ObjKind) (spec : Spec) (types values : List Tree) → ((x : Tree) → Contains (types ++ values) x → (t : Tree) → Contains (expressions_in x) t → Contains nodes t) → others_by_kind read kind spec types values ≡ others_by_kind (outcome naming headers) kind spec types values
    others_kind_same Const spec types values inside = others_same no_value is_constant spec values (λ x h. inside x (Contains-append_right types values x h))
    others_kind_same kind spec types values inside = others_same no_type is_type spec types (λ x h. inside x (Contains-append_left types values x h))

    unequal_kind_same : (kind : ObjKind) (spec : Spec) → ((v : Tree) → Contains spec.values v → (t : Tree) → Contains (expressions_in v) t → Contains nodes t) → unequal_by_kind read kind spec ≡ unequal_by_kind (outcome naming headers) kind spec
    unequal_kind_same Const spec inside =
        let records : list_all (has_record read is_constant) spec.values ≡ list_all (has_record (outcome naming headers) is_constant) spec.values =
        list_all-same (has_record read is_constant) (has_record (outcome naming headers) is_constant) spec.values (λ v h. says_same is_constant v (inside v h)) in
        (λ i. told_if (not (length spec.names == length spec.values) && records i) (broken_at spec.file (start_of spec.node) unequal_sides))
    unequal_kind_same kind spec inside = refl

    unequal_same : (spec : Spec) → ((v : Tree) → Contains spec.values v → (t : Tree) → Contains (expressions_in v) t → Contains nodes t) → unequal_by read spec ≡ unequal_at naming headers spec
    unequal_same spec inside = unequal_kind_same spec.kind spec inside

    spec_same : (spec : Spec) → ((t : Tree) → Contains (expressions_in_parts spec) t → Contains nodes t) → broken_spec_by read spec ≡ broken_spec naming headers spec
    spec_same spec within =
        let inside : (x : Tree) → Contains (spec.types ++ spec.values) x → (t : Tree) → Contains (expressions_in x) t → Contains nodes t =
        λ x h t i. within t (flat_contains expressions_in (spec.types ++ spec.values) x t h i) in
        let unequal = unequal_same spec (λ v h. inside v (Contains-append_right spec.types spec.values v h)) in
        let others = others_kind_same spec.kind spec spec.types spec.values inside in
        let parts = each_same spec.file spec.told_at (spec.types ++ spec.values) inside in
        (λ i. unequal i ++ (others i ++ parts i))

    unequal_for_same : (b : Built) (spec : Spec) → (b ≡ WholeList → (v : Tree) → Contains spec.values v → (t : Tree) → Contains (expressions_in v) t → Contains nodes t) → unequal_for read b spec ≡ unequal_for (outcome naming headers) b spec
    unequal_for_same WholeList spec inside = unequal_same spec (inside refl)
    unequal_for_same Pair spec inside = refl
    unequal_for_same Itself spec inside = refl

    -- what a declaration of a spec breaks
    pub under_same : (spec : Spec) (d : Declaration) → Contains (declared_in spec) d → ((t : Tree) → Contains (nodes_under d) t → Contains nodes t) → broken_under read spec d ≡ broken_under (outcome naming headers) spec d
    under_same spec d h within =
        let inside : (x : Tree) → Contains (rests_on d) x → (t : Tree) → Contains (expressions_in x) t → Contains nodes t =
        λ x i t j. within t (flat_contains expressions_in (rests_on d) x t i j) in
        let unequal = unequal_for_same d.built spec (λ is v k. inside v (Contains-append_right d.types d.values v (subst (λ (vs : List Tree). Contains vs v) (whole_list spec d h is) k))) in
        let others = others_kind_same spec.kind spec d.types d.values inside in
        let parts = each_same spec.file spec.told_at (rests_on d) inside in
        (λ i. unequal i ++ (others i ++ parts i))

    abbrev AreSame : Option Tree → Type 0
    AreSame node = option_and_then (record_by read) node ≡ option_and_then (record_of naming headers) node

    first_same : (xs : List Tree) → ((x : Tree) → Contains xs x → (t : Tree) → Contains (expressions_in x) t → Contains nodes t) → AreSame (slice_get xs 0)
    first_same [] within = refl
    first_same (x ∷ xs) within = record_same x (within x (contains_head x xs x refl))

    node_same : (kind : ObjKind) (b : Built) (types values : List Tree) → ((x : Tree) → Contains (types ++ values) x → (t : Tree) → Contains (expressions_in x) t → Contains nodes t) → AreSame (tells_by kind b types values)
    node_same Const Pair types values within = first_same values (λ x h. within x (Contains-append_right types values x h))
    node_same Var Itself types values within = first_same types (λ x h. within x (Contains-append_left types values x h))
    node_same Defined Itself types values within = first_same types (λ x h. within x (Contains-append_left types values x h))
    node_same Alias Itself types values within = first_same types (λ x h. within x (Contains-append_left types values x h))
    node_same kind b types values within = refl

    pub header_same : (d : Declaration) → ((t : Tree) → Contains (nodes_under d) t → Contains nodes t) → header_by read d ≡ header_over naming headers d
    header_same d within =
        ap (option_and_then (told_by d.kind)) (node_same d.kind d.built d.types d.values (λ x h t i. within t (flat_contains expressions_in (rests_on d) x t h i)))

  -- what specs break
  pub specs_same : (specs : List Spec) → AreWalked naming headers (flat_map expressions_in_parts specs) outcomes → flat_map (broken_spec_by read) specs ≡ flat_map (broken_spec naming headers) specs
  specs_same specs walked =
      flat_map-same (broken_spec_by read) (broken_spec naming headers) specs
      (λ spec h. spec_same (flat_map expressions_in_parts specs) walked spec (λ t i. flat_contains expressions_in_parts specs spec t h i))

  -- the nodes on which the headers of a package's declarations rest
  pub under_walked : (p : PackageData) (declarations : List Declaration) → declarations ≡ declarations_of p → AreWalked naming headers (nodes_of p) outcomes → AreWalked naming headers (flat_map nodes_under declarations) outcomes
  under_walked p declarations are walked t h =
      let d = flat_cases nodes_under declarations t h in
      walked t (declarations_within (specs_of p) d.0 (subst (λ (ds : List Declaration). Contains ds d.0) are d.1) t d.2)
