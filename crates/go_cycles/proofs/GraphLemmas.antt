-- The graph of the places to which right sides lead: its edges, its paths, and what leads on in it.
use Rattle.std.proofs.Common.{◌≡◌, ℕ, suc, ◌<◌, Bool, Option, Some, None, List, [], ◌∷◌, ◌⊎◌, inl, inr, length, map, refl, sym, ap, ◌∙◌, subst, Contains, arith}
use Rattle.std.specs.Prelude.{◌↔◌, slice_get, unwrap_or, option_to_list, true, false}
use Rattle.std.specs.Option.{option_map}
use Rattle.std.proofs.lemmas.List.{length-map}
use Rattle.std.proofs.lemmas.Option.{slice_get-map, slice_get_within}
use Rattle.go_base.specs.declared.ids.ObjId.{ObjId}
use Rattle.go_tree.specs.declared.node.NodeId.{NodeId}
use Rattle.go_graph.specs.Graph.{Graph, HasEdge, start, further, IsGraph, is_marked, row_at}
use Rattle.go_graph.specs.Graph.{Path as GraphPath}
use Rattle.go_module.specs.Names.Declarations.{Declaration, number_of}
use Rattle.go_module.proofs.MemberLemmas.{cons_cases, contains_head, contains_none}
use Rattle.go_cycles.specs.declared.leading.Way.{Way}
use Rattle.go_cycles.specs.Leading.{GoesOn, Leads, Path, declared_as, goes, more, names_of, one, stays}
use Rattle.go_cycles.specs.Places.{ArePlaces, graph_of, mark_at, marked_by, place_named, placed_by, places_led_to}
use Rattle.go_cycles.proofs.ListLemmas.{flat_cases, flat_contains}
use Rattle.go_cycles.proofs.PlaceLemmas.{IsPlaced, declared_place, place_declared}

pub row_declared : (f : Declaration → List ℕ) (declarations : List Declaration) (i e : ℕ) → Contains (row_at (map f declarations) i) e → (declaration : Declaration) × (slice_get declarations i ≡ Some declaration) × Contains (f declaration) e
row_declared f declarations i e has = by_place (slice_get declarations i) refl (subst (λ (o : Option (List ℕ)). Contains (unwrap_or o []) e) (slice_get-map f declarations i) has)
  where
    by_place : (o : Option Declaration) → slice_get declarations i ≡ o → Contains (unwrap_or (option_map f o) []) e → (declaration : Declaration) × (slice_get declarations i ≡ Some declaration) × Contains (f declaration) e
    by_place None at h = absurd (contains_none e h)
    by_place (Some declaration) at h = (declaration, at, h)

pub declared_row : (f : Declaration → List ℕ) (declarations : List Declaration) (i : ℕ) (declaration : Declaration) → slice_get declarations i ≡ Some declaration → row_at (map f declarations) i ≡ f declaration
declared_row f declarations i declaration at = ap (λ (o : Option (List ℕ)). unwrap_or o []) (slice_get-map f declarations i ∙ ap (option_map f) at)

pub listed : (o : Option ℕ) (place : ℕ) → Contains (option_to_list o) place → o ≡ Some place
listed None place h = absurd (contains_none place h)
listed (Some n) place h = by_cases (cons_cases n [] place h)
  where
    by_cases : (n ≡ place) ⊎ Contains [] place → Some n ≡ Some place
    by_cases (inl same) = ap Some same
    by_cases (inr none) = absurd (contains_none place none)

-- a place that is named is that of what is denoted
place_of : (places : ObjId → Option ℕ) (o : Option ObjId) (place : ℕ) → Contains (place_named places o) place → (d : ObjId) × (o ≡ Some d) × (places d ≡ Some place)
place_of places None place h = absurd (contains_none place h)
place_of places (Some d) place h = (d, refl, listed (places d) place h)

named_place : (places : ObjId → Option ℕ) (o : Option ObjId) (d : ObjId) (place : ℕ) → o ≡ Some d → places d ≡ Some place → Contains (place_named places o) place
named_place places o d place e at =
    let list : place_named places o ≡ place ∷ [] = ap (place_named places) e ∙ ap option_to_list at in
    subst (λ (xs : List ℕ). Contains xs place) (sym list) (contains_head place [] place refl)

module _ (denotes : NodeId → Option ObjId) (entries : List (ObjId × ℕ)) (types : List Declaration) (placed : ArePlaces types entries) where
  place_is : (d : ObjId) (place : ℕ) → placed_by entries d ≡ Some place → IsPlaced types d place
  place_is d place e = place_declared types d place (sym (placed d) ∙ e)

  place_within : (d : ObjId) (place : ℕ) → placed_by entries d ≡ Some place → place < length types
  place_within d place e = let is = place_is d place e in slice_get_within types place is.declaration is.at

  -- what is declared has a place
  record HasPlace (d : ℕ) : Type 0 where
    place : ℕ
    is : placed_by entries (record { 0 = d }) ≡ Some place

  has_own_place : (d : ℕ) (declaration : Declaration) → declared_as types d ≡ Some declaration → HasPlace d
  has_own_place d declaration e = let there = declared_place types (record { 0 = d }) declaration e in record { place = there.place; is = placed (record { 0 = d }) ∙ there.is }

  -- one place is that of one object
  one_object : (d e : ObjId) (place : ℕ) → placed_by entries d ≡ Some place → placed_by entries e ≡ Some place → d ≡ e
  one_object d e place at there =
      let here = place_is d place at in
      let other = place_is e place there in
      let same : here.declaration ≡ other.declaration = cc (here.at, other.at) in
      sym here.number ∙ ap number_of same ∙ other.number

  module _ (way : Way) where
    abbrev found : Declaration → List ℕ
    found = places_led_to denotes (placed_by entries) way

    abbrev graph : Graph
    graph = graph_of denotes (placed_by entries) way types

    -- an edge from the place of an object leads to the place of one to which its right side leads
    record Next (d : ObjId) (place : ℕ) : Type 0 where
      pub object : ObjId
      pub is : placed_by entries object ≡ Some place
      pub leads : Leads denotes types way d.0 object.0

    edge_next : (d : ObjId) (i j : ℕ) → placed_by entries d ≡ Some i → HasEdge graph i j → Next d j
    edge_next d i j e has =
        let at = row_declared found types i j has in
        let here = place_is d i e in
        let same : here.declaration ≡ at.0 = cc (here.at, at.1) in
        let name = flat_cases (λ name. place_named (placed_by entries) (denotes name)) (names_of way at.0) j at.2 in
        let is = place_of (placed_by entries) (denotes name.0) j name.2 in
        let there = place_is is.0 j is.2 in
        record {
          object = is.0;
          is = is.2;
          leads = record {
            declaration = at.0;
            declared = here.declared ∙ ap Some same;
            name = name.0;
            among = name.1;
            denoted = is.1;
            target = there.declaration;
            target_is = there.declared;
          };
        }

    next_edge : (d e : ObjId) (i j : ℕ) → placed_by entries d ≡ Some i → placed_by entries e ≡ Some j → Leads denotes types way d.0 e.0 → HasEdge graph i j
    next_edge d e i j at there l =
        let here = place_is d i at in
        let same : here.declaration ≡ l.declaration = cc (here.declared, l.declared) in
        let row : row_at graph i ≡ found l.declaration = declared_row found types i l.declaration (here.at ∙ ap Some same) in
        subst (λ (xs : List ℕ). Contains xs j) (sym row)
        (flat_contains (λ name. place_named (placed_by entries) (denotes name)) (names_of way l.declaration) l.name j l.among (named_place (placed_by entries) (denotes l.name) e j l.denoted there))

    pub places_graph : IsGraph graph
    places_graph a b has =
        let at = row_declared found types a b has in
        let name = flat_cases (λ name. place_named (placed_by entries) (denotes name)) (names_of way at.0) b at.2 in
        let is = place_of (placed_by entries) (denotes name.0) b name.2 in
        let lt = place_within is.0 b is.2 in
        omega (arith, lt, length-map types found)

    -- paths
    record Led (d : ObjId) (place : ℕ) : Type 0 where
      pub object : ObjId
      pub is : placed_by entries object ≡ Some place
      pub path : Path (Leads denotes types way) d.0 object.0

    path_led : (d : ObjId) (i j : ℕ) → placed_by entries d ≡ Some i → GraphPath graph i j → Led d j
    path_led d i j e (start _ has) =
        let next = edge_next d i j e has in
        record { object = next.object; is = next.is; path = one next.object.0 next.leads }
    path_led d i j e (further b _ p has) =
        let so_far = path_led d i b e p in
        let next = edge_next so_far.object b j so_far.is has in
        record { object = next.object; is = next.is; path = more so_far.object.0 next.object.0 so_far.path next.leads }

    led_path : (d : ObjId) (e i j : ℕ) → placed_by entries d ≡ Some i → placed_by entries (record { 0 = e }) ≡ Some j → Path (Leads denotes types way) d.0 e → GraphPath graph i j
    led_path d e i j at there (one _ l) = start j (next_edge d (record { 0 = e }) i j at there l)
    led_path d e i j at there (more b _ path l) =
        let inside = has_own_place b l.declaration l.declared in
        further inside.place j (led_path d b i inside.place at inside.is path) (next_edge (record { 0 = b }) (record { 0 = e }) inside.place j inside.is there l)

    -- the first of a path is declared
    first_place : (d e : ℕ) → Path (Leads denotes types way) d e → HasPlace d
    first_place d e (one _ l) = has_own_place d l.declaration l.declared
    first_place d e (more b _ path l) = first_place d b path

    -- the vertices from which a path leads back are the places of what leads back to itself
    pub marks_are_paths : (marks : List Bool) → ((i : ℕ) → (is_marked marks i ≡ true) ↔ GraphPath graph i i) → (d : ℕ) → (marked_by (placed_by entries) marks d ≡ true) ↔ Path (Leads denotes types way) d d
    marks_are_paths marks exact d = (to_path (placed_by entries (record { 0 = d })) refl, to_mark)
      where
        to_path : (o : Option ℕ) → placed_by entries (record { 0 = d }) ≡ o → marked_by (placed_by entries) marks d ≡ true → Path (Leads denotes types way) d d
        to_path None at e = absurd (let never : false ≡ true = sym (ap (mark_at marks) at) ∙ e in cc)
        to_path (Some i) at e =
            let back = path_led (record { 0 = d }) i i at ((exact i).0 (sym (ap (mark_at marks) at) ∙ e)) in
            let same : back.object.0 ≡ d = ap (λ (k : ObjId). k.0) (one_object back.object (record { 0 = d }) i back.is at) in
            subst (Path (Leads denotes types way) d) same back.path

        to_mark : Path (Leads denotes types way) d d → marked_by (placed_by entries) marks d ≡ true
        to_mark path =
            let here = first_place d d path in
            ap (mark_at marks) here.is ∙ (exact here.place).1 (led_path (record { 0 = d }) d here.place here.place here.is here.is path)

    -- what leads on
    led_on : (n : ℕ) (d : ObjId) (i : ℕ) → placed_by entries d ≡ Some i → GoesOn (HasEdge graph) n i → GoesOn (Leads denotes types way) n d.0
    led_on _ d i e (stays _) = stays d.0
    led_on (suc n) d i e (goes _ _ j has on) =
        let next = edge_next d i j e has in
        goes n d.0 next.object.0 next.leads (led_on n next.object j next.is on)

    on_led : (n d i : ℕ) → placed_by entries (record { 0 = d }) ≡ Some i → GoesOn (Leads denotes types way) n d → GoesOn (HasEdge graph) n i
    on_led _ d i e (stays _) = stays i
    on_led (suc n) d i at (goes _ _ e l on) =
        let inside = has_own_place e l.target l.target_is in
        goes n i inside.place (next_edge (record { 0 = d }) (record { 0 = e }) i inside.place at inside.is l) (on_led n e inside.place inside.is on)

    first_on : (d : ℕ) → GoesOn (Leads denotes types way) 1 d → HasPlace d
    first_on d (goes _ _ e l on) = has_own_place d l.declaration l.declared

    -- the vertices from which edges lead on without an end are the places of what leads on so
    pub marks_lead_on : (marks : List Bool) → ((i : ℕ) → (is_marked marks i ≡ true) ↔ ((n : ℕ) → GoesOn (HasEdge graph) n i))
        → (d : ℕ) → (marked_by (placed_by entries) marks d ≡ true) ↔ ((n : ℕ) → GoesOn (Leads denotes types way) n d)
    marks_lead_on marks exact d = (to_led (placed_by entries (record { 0 = d })) refl, to_mark)
      where
        to_led : (o : Option ℕ) → placed_by entries (record { 0 = d }) ≡ o → marked_by (placed_by entries) marks d ≡ true → (n : ℕ) → GoesOn (Leads denotes types way) n d
        to_led None at e n = absurd (let never : false ≡ true = sym (ap (mark_at marks) at) ∙ e in cc)
        to_led (Some i) at e n = led_on n (record { 0 = d }) i at ((exact i).0 (sym (ap (mark_at marks) at) ∙ e) n)

        to_mark : ((n : ℕ) → GoesOn (Leads denotes types way) n d) → marked_by (placed_by entries) marks d ≡ true
        to_mark on =
            let here = first_on d (on 1) in
            ap (mark_at marks) here.is ∙ (exact here.place).1 (λ n. on_led n d here.place here.is (on n))
