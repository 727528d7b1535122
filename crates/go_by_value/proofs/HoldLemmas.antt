-- The graph of the places of declarations whose values hold each other: its edges, its paths, what leads back in it.
use Rattle.std.proofs.Common.{◌≡◌, ℕ, Bool, eqb, cond, Option, Some, None, List, [], ◌∷◌, ◌⊎◌, inl, inr, refl, sym, ap, ◌∙◌, subst, Contains, arith}
use Rattle.std.specs.Prelude.{◌↔◌, option_to_list, slice_get, true, false}
use Rattle.std.specs.Option.{option_map}
use Rattle.std.proofs.lemmas.Bool.{eq-eqb}
use Rattle.std.proofs.lemmas.List.{length-map}
use Rattle.std.proofs.lemmas.Option.{get_or_from_slice_get, slice_get-map, slice_get_within}
use Rattle.go_base.specs.declared.ids.ObjId.{ObjId}
use Rattle.go_graph.specs.Graph.{Graph, HasEdge, start, further, IsGraph, is_marked, row_at, Path as GraphPath}
use Rattle.go_module.specs.Names.Declarations.{Declaration, number_of, numbers_of}
use Rattle.go_module.specs.declared.object.Method.{Method}
use Rattle.go_module.proofs.MemberLemmas.{cons_cases, contains_head, contains_none}
use Rattle.go_term.specs.Types.{TypeData}
use Rattle.go_cycles.specs.Leading.{Path, declared_as, more, one}
use Rattle.go_cycles.specs.Places.{ArePlaces, mark_at, marked_by, placed_by}
use Rattle.go_cycles.proofs.GraphLemmas.{declared_row, listed, row_declared}
use Rattle.go_cycles.proofs.ListLemmas.{flat_cases, flat_contains}
use Rattle.go_cycles.proofs.PlaceLemmas.{IsPlaced, declared_place, place_declared}
use Rattle.go_judge.specs.Records.{HeaderData, ParamData, alias, constant, definition, func, variable}
use Rattle.go_judge.specs.Headers.{Headers}
use Rattle.go_values.specs.ByValue.{Contained, Holds, held_in}
use Rattle.go_by_value.specs.Holding.{graph_of, held_by, place_list, places_held}

-- only what a definition has for its right side is held
record Defines (o : Option HeaderData) (e : ObjId) : Type 0 where
  params : List ParamData
  right : TypeData
  methods : List Method
  is : o ≡ Some (definition params right methods)
  held : Contains (held_in right) e

defines : (o : Option HeaderData) (e : ObjId) → Contains (held_by o) e → Defines o e
defines (Some (constant type value)) e h = absurd (contains_none e h)
defines (Some (variable type)) e h = absurd (contains_none e h)
defines (Some (func params type)) e h = absurd (contains_none e h)
defines (Some (definition params right methods)) e h = record { params = params; right = right; methods = methods; is = refl; held = h }
defines (Some (alias type)) e h = absurd (contains_none e h)
defines None e h = absurd (contains_none e h)

-- a number among those of declarations is that of one
declared_among : (declarations : List Declaration) (d : ObjId) → Contains (numbers_of declarations) d → (x : Declaration) × (declared_as declarations d.0 ≡ Some x)
declared_among [] d h = absurd (contains_none d h)
declared_among (x ∷ xs) d h = by_test (declared_among xs d) (eqb (number_of x).0 d.0) refl
  where
    later : (Contains (numbers_of xs) d → (y : Declaration) × (declared_as xs d.0 ≡ Some y)) → eqb (number_of x).0 d.0 ≡ false → (number_of x ≡ d) ⊎ Contains (numbers_of xs) d → (y : Declaration) × (declared_as (x ∷ xs) d.0 ≡ Some y)
    later rest other (inl same) = absurd (let yes = eq-eqb (number_of x).0 d.0 (ap (λ (k : ObjId). k.0) same) in cc (yes, other))
    later rest other (inr there) = let found = rest there in (found.0, ap (λ b. cond b (Some x) (declared_as xs d.0)) other ∙ found.1)

    by_test : (Contains (numbers_of xs) d → (y : Declaration) × (declared_as xs d.0 ≡ Some y)) → (b : Bool) → eqb (number_of x).0 d.0 ≡ b → (y : Declaration) × (declared_as (x ∷ xs) d.0 ≡ Some y)
    by_test rest true here = (x, ap (λ b. cond b (Some x) (declared_as xs d.0)) here)
    by_test rest false other = later rest other (cons_cases (number_of x) (numbers_of xs) d h)

number_among : (declarations : List Declaration) (i : ℕ) (x : Declaration) → slice_get declarations i ≡ Some x → Contains (numbers_of declarations) (number_of x)
number_among declarations i x at =
    let there : slice_get (numbers_of declarations) i ≡ Some (number_of x) = slice_get-map number_of declarations i ∙ ap (option_map number_of) at in
    (i, slice_get_within (numbers_of declarations) i (number_of x) there, get_or_from_slice_get (numbers_of declarations) i (number_of x) (number_of x) there)

module _ (entries : List (ObjId × ℕ)) (declarations : List Declaration) (placed : ArePlaces declarations entries) where
  place_is : (d : ObjId) (place : ℕ) → placed_by entries d ≡ Some place → IsPlaced declarations d place
  place_is d place e = place_declared declarations d place (sym (placed d) ∙ e)

  -- what has a place is declared, and what is declared has one
  among : (d : ObjId) (place : ℕ) → placed_by entries d ≡ Some place → Contains (numbers_of declarations) d
  among d place e =
      let is = place_is d place e in
      subst (Contains (numbers_of declarations)) is.number (number_among declarations place is.declaration is.at)

  record HasPlace (d : ObjId) : Type 0 where
    place : ℕ
    is : placed_by entries d ≡ Some place

  has_own_place : (d : ObjId) → Contains (numbers_of declarations) d → HasPlace d
  has_own_place d h =
      let declared = declared_among declarations d h in
      let there = declared_place declarations d declared.0 declared.1 in
      record { place = there.place; is = placed d ∙ there.is }

  -- one place is that of one object
  one_object : (d e : ObjId) (place : ℕ) → placed_by entries d ≡ Some place → placed_by entries e ≡ Some place → d ≡ e
  one_object d e place at there =
      let here = place_is d place at in
      let other = place_is e place there in
      let same : here.declaration ≡ other.declaration = cc (here.at, other.at) in
      sym here.number ∙ ap number_of same ∙ other.number

  module _ (headers : Headers) where
    abbrev row : Declaration → List ℕ
    row d = places_held (placed_by entries) headers (number_of d)

    abbrev graph : Graph
    graph = graph_of (placed_by entries) headers declarations

    abbrev Step : ℕ → ℕ → Type 0
    Step = Holds declarations headers

    pub holding_graph : IsGraph graph
    holding_graph a b has =
        let at = row_declared row declarations a b has in
        let held = flat_cases (place_list (placed_by entries)) (held_by (headers (number_of at.0).0)) b at.2 in
        let is = place_is held.0 b (listed (placed_by entries held.0) b held.2) in
        let lt = slice_get_within declarations b is.declaration is.at in
        omega (arith, lt, length-map declarations row)

    -- an edge from the place of an object leads to the place of one that it holds
    record Next (d : ObjId) (place : ℕ) : Type 0 where
      pub object : ObjId
      pub is : placed_by entries object ≡ Some place
      pub holds : Step d.0 object.0

    edge_next : (d : ObjId) (i j : ℕ) → placed_by entries d ≡ Some i → HasEdge graph i j → Next d j
    edge_next d i j e has =
        let at = row_declared row declarations i j has in
        let here = place_is d i e in
        let same : here.declaration ≡ at.0 = cc (here.at, at.1) in
        let number : number_of at.0 ≡ d = ap number_of (sym same) ∙ here.number in
        let held = flat_cases (place_list (placed_by entries)) (held_by (headers (number_of at.0).0)) j at.2 in
        let defined = defines (headers (number_of at.0).0) held.0 held.1 in
        let is = listed (placed_by entries held.0) j held.2 in
        record {
          object = held.0;
          is = is;
          holds = record {
            params = defined.params;
            right = defined.right;
            methods = defined.methods;
            defined = ap (λ (k : ObjId). headers k.0) (sym number) ∙ defined.is;
            among = among d i e;
            held = defined.held;
            target = among held.0 j is;
          };
        }

    next_edge : (d e : ObjId) (i j : ℕ) → placed_by entries d ≡ Some i → placed_by entries e ≡ Some j → Step d.0 e.0 → HasEdge graph i j
    next_edge d e i j at there h =
        let here = place_is d i at in
        let known : headers (number_of here.declaration).0 ≡ Some (definition h.params h.right h.methods) = ap (λ (k : ObjId). headers k.0) here.number ∙ h.defined in
        let same : row_at graph i ≡ row here.declaration = declared_row row declarations i here.declaration here.at in
        let list : Contains (place_list (placed_by entries) e) j = subst (λ (o : Option ℕ). Contains (option_to_list o) j) (sym there) (contains_head j [] j refl) in
        subst (λ (xs : List ℕ). Contains xs j) (sym same)
        (flat_contains (place_list (placed_by entries)) (held_by (headers (number_of here.declaration).0)) e j
        (subst (λ (o : Option HeaderData). Contains (held_by o) e) (sym known) h.held) list)

    -- paths
    record Led (d : ObjId) (place : ℕ) : Type 0 where
      pub object : ObjId
      pub is : placed_by entries object ≡ Some place
      pub path : Path Step d.0 object.0

    path_led : (d : ObjId) (i j : ℕ) → placed_by entries d ≡ Some i → GraphPath graph i j → Led d j
    path_led d i j e (start _ has) =
        let next = edge_next d i j e has in
        record { object = next.object; is = next.is; path = one next.object.0 next.holds }
    path_led d i j e (further b _ p has) =
        let so_far = path_led d i b e p in
        let next = edge_next so_far.object b j so_far.is has in
        record { object = next.object; is = next.is; path = more so_far.object.0 next.object.0 so_far.path next.holds }

    led_path : (d : ObjId) (e i j : ℕ) → placed_by entries d ≡ Some i → placed_by entries (record { 0 = e }) ≡ Some j → Path Step d.0 e → GraphPath graph i j
    led_path d e i j at there (one _ h) = start j (next_edge d (record { 0 = e }) i j at there h)
    led_path d e i j at there (more b _ path h) =
        let inside = has_own_place (record { 0 = b }) h.among in
        further inside.place j (led_path d b i inside.place at inside.is path) (next_edge (record { 0 = b }) (record { 0 = e }) inside.place j inside.is there h)

    -- the first of a path is declared
    first_place : (d e : ℕ) → Path Step d e → HasPlace (record { 0 = d })
    first_place d e (one _ h) = has_own_place (record { 0 = d }) h.among
    first_place d e (more b _ path h) = first_place d b path

    -- the vertices from which a path leads back are the places of what contains itself
    pub marks_are_contained : (marks : List Bool) → ((i : ℕ) → (is_marked marks i ≡ true) ↔ GraphPath graph i i) → (d : ℕ) → (marked_by (placed_by entries) marks d ≡ true) ↔ Contained declarations headers d
    marks_are_contained marks exact d = (to_path (placed_by entries (record { 0 = d })) refl, to_mark)
      where
        to_path : (o : Option ℕ) → placed_by entries (record { 0 = d }) ≡ o → marked_by (placed_by entries) marks d ≡ true → Contained declarations headers d
        to_path None at e = absurd (let never : false ≡ true = sym (ap (mark_at marks) at) ∙ e in cc)
        to_path (Some i) at e =
            let back = path_led (record { 0 = d }) i i at ((exact i).0 (sym (ap (mark_at marks) at) ∙ e)) in
            let same : back.object.0 ≡ d = ap (λ (k : ObjId). k.0) (one_object back.object (record { 0 = d }) i back.is at) in
            subst (Path Step d) same back.path

        to_mark : Contained declarations headers d → marked_by (placed_by entries) marks d ≡ true
        to_mark path =
            let here = first_place d d path in
            ap (mark_at marks) here.is ∙ (exact here.place).1 (led_path (record { 0 = d }) d here.place here.place here.is here.is path)
