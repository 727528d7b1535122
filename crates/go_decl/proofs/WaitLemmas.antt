-- What nodes wait for, and the graph of the waits.
use Rattle.std.proofs.Common.{◌≡◌, ℕ, ◌<◌, Bool, Option, Some, None, List, [], ◌∷◌, ◌⊎◌, inl, inr, length, map, refl, sym, ap, ◌∙◌, subst, Contains, arith}
use Rattle.std.specs.Prelude.{◌↔◌, slice_get, unwrap_or, option_to_list, true, false}
use Rattle.std.specs.List.{flat_map}
use Rattle.std.specs.Option.{option_map}
use Rattle.std.proofs.lemmas.List.{length-map}
use Rattle.std.proofs.lemmas.Option.{slice_get-map, slice_get_within}
use Rattle.std.proofs.lemmas.List.Elements.{Contains-append_cases, Contains-append_left, Contains-append_right}
use Rattle.go_base.specs.declared.ids.ObjId.{ObjId}
use Rattle.go_graph.specs.Graph.{Graph, HasEdge, Path, start, further, IsGraph, is_marked, row_at}
use Rattle.go_model.specs.Names.Declarations.{Declaration, number_of, rests_on}
use Rattle.go_operands.specs.Operands.{expressions_in}
use Rattle.go_module.proofs.MemberLemmas.{cons_cases, contains_head, contains_none, contains_tail}
use Rattle.go_judge.specs.Naming.{Naming}
use Rattle.go_model.specs.Outcomes.Readings.{awaited_in}
use Rattle.go_judge.specs.Headers.{Headers, Outcomes}
use Rattle.go_model.specs.Outcomes.Walk.{outcome}
use Rattle.go_model.specs.Outcomes.Walked.{AreWalked}
use Rattle.go_values.specs.Waiting.{Chain, Waits, awaited_among, awaited_by, awaited_by_nodes, awaited_under, more, one}
use Rattle.go_values.specs.Declared.{declared_as}
use Rattle.go_model.proofs.FlatLemmas.{flat_contains, flat_map-same, map-same}
use Rattle.go_expr.proofs.ReadLemmas.{read_is}
use Rattle.go_expr.specs.Read.{nodes_under, outcome_read}
use Rattle.go_decl.specs.Places.{ArePlaces, placed_by}
use Rattle.go_decl.specs.Waits.{awaited_places, mark_at, marked_by, place_list, waits_of}
use Rattle.go_decl.proofs.PlaceLemmas.{IsPlaced, declared_place, place_declared}

-- the graph of the waits
row_declared : (f : Declaration → List ℕ) (declarations : List Declaration) (d e : ℕ) → Contains (row_at (map f declarations) d) e → (declaration : Declaration) × (slice_get declarations d ≡ Some declaration) × Contains (f declaration) e
row_declared f declarations d e has = by_place (slice_get declarations d) refl (subst (λ (o : Option (List ℕ)). Contains (unwrap_or o []) e) (slice_get-map f declarations d) has)
  where
    by_place : (o : Option Declaration) → slice_get declarations d ≡ o → Contains (unwrap_or (option_map f o) []) e → (declaration : Declaration) × (slice_get declarations d ≡ Some declaration) × Contains (f declaration) e
    by_place None at h = absurd (contains_none e h)
    by_place (Some declaration) at h = (declaration, at, h)

declared_row : (f : Declaration → List ℕ) (declarations : List Declaration) (d : ℕ) (declaration : Declaration) → slice_get declarations d ≡ Some declaration → row_at (map f declarations) d ≡ f declaration
declared_row f declarations d declaration at = ap (λ (o : Option (List ℕ)). unwrap_or o []) (slice_get-map f declarations d ∙ ap (option_map f) at)

-- a place among those of numbers is that of one of them
module _ (places : ObjId → Option ℕ) where
  pub record IsPlaceOf (numbers : List ℕ) (place : ℕ) : Type 0 where
    pub number : ℕ
    pub among : Contains numbers number
    pub is : places (record { 0 = number }) ≡ Some place

  listed : (o : Option ℕ) (place : ℕ) → Contains (option_to_list o) place → o ≡ Some place
  listed None place h = absurd (contains_none place h)
  listed (Some n) place h = by_cases (cons_cases n [] place h)
    where
      by_cases : (n ≡ place) ⊎ Contains [] place → Some n ≡ Some place
      by_cases (inl same) = ap Some same
      by_cases (inr none) = absurd (contains_none place none)

  place_of : (numbers : List ℕ) (place : ℕ) → Contains (flat_map (place_list places) numbers) place → IsPlaceOf numbers place
  place_of [] place h = absurd (contains_none place h)
  place_of (n ∷ numbers) place h = by_either (Contains-append_cases (place_list places n) (flat_map (place_list places) numbers) place h) (place_of numbers place)
    where
      by_either : Contains (place_list places n) place ⊎ Contains (flat_map (place_list places) numbers) place → (Contains (flat_map (place_list places) numbers) place → IsPlaceOf numbers place) → IsPlaceOf (n ∷ numbers) place
      by_either (inl here) later = record { number = n; among = contains_head n numbers n refl; is = listed (places (record { 0 = n })) place here }
      by_either (inr there) later = let found = later there in record { number = found.number; among = contains_tail n numbers found.number found.among; is = found.is }

  has_place : (numbers : List ℕ) (n place : ℕ) → Contains numbers n → places (record { 0 = n }) ≡ Some place → Contains (flat_map (place_list places) numbers) place
  has_place [] n place h e = absurd (contains_none n h)
  has_place (k ∷ numbers) n place h e = by_cases (cons_cases k numbers n h) (has_place numbers n place)
    where
      here : k ≡ n → Contains (place_list places k) place
      here same =
          let at : places (record { 0 = k }) ≡ Some place = ap (λ i. places (record { 0 = i })) same ∙ e in
          subst (λ (o : Option ℕ). Contains (option_to_list o) place) (sym at) (contains_head place [] place refl)

      by_cases : (k ≡ n) ⊎ Contains numbers n → (Contains numbers n → places (record { 0 = n }) ≡ Some place → Contains (flat_map (place_list places) numbers) place) → Contains (flat_map (place_list places) (k ∷ numbers)) place
      by_cases (inl same) later = Contains-append_left (place_list places k) (flat_map (place_list places) numbers) place (here same)
      by_cases (inr there) later = Contains-append_right (place_list places k) (flat_map (place_list places) numbers) place (later there e)

module _ (entries : List (ObjId × ℕ)) (declarations : List Declaration) (placed : ArePlaces declarations entries) where
  place_is : (d : ObjId) (place : ℕ) → placed_by entries d ≡ Some place → IsPlaced declarations d place
  place_is d place e = place_declared declarations d place (sym (placed d) ∙ e)

  place_within : (d : ObjId) (place : ℕ) → placed_by entries d ≡ Some place → place < length declarations
  place_within d place e = let is = place_is d place e in slice_get_within declarations place is.declaration is.at

  -- what is declared has a place
  record HasPlace (d : ℕ) : Type 0 where
    place : ℕ
    is : placed_by entries (record { 0 = d }) ≡ Some place

  has_own_place : (d : ℕ) (declaration : Declaration) → declared_as declarations d ≡ Some declaration → HasPlace d
  has_own_place d declaration e = let there = declared_place declarations (record { 0 = d }) declaration e in record { place = there.place; is = placed (record { 0 = d }) ∙ there.is }

  -- one place is that of one object
  one_object : (d e : ObjId) (place : ℕ) → placed_by entries d ≡ Some place → placed_by entries e ≡ Some place → d ≡ e
  one_object d e place at there =
      let here = place_is d place at in
      let other = place_is e place there in
      let one : here.declaration ≡ other.declaration = cc (here.at, other.at) in
      sym here.number ∙ ap number_of one ∙ other.number

  pub waits_graph : (awaited : Declaration → List ℕ) → IsGraph (waits_of (placed_by entries) awaited declarations)
  waits_graph awaited a b e =
      let found : Declaration → List ℕ = awaited_places (placed_by entries) awaited in
      let at = row_declared found declarations a b e in
      let is = place_of (placed_by entries) (awaited at.0) b at.2 in
      let lt = place_within (record { 0 = is.number }) b is.is in
      omega (arith, lt, length-map declarations found)

  module _ (naming : Naming) (headers : Headers) where
    abbrev found : Declaration → List ℕ
    found = awaited_places (placed_by entries) (awaited_by naming headers)

    abbrev graph : Graph
    graph = waits_of (placed_by entries) (awaited_by naming headers) declarations

    -- an edge from the place of an object leads to the place of one that it waits for
    record Leads (d : ObjId) (place : ℕ) : Type 0 where
      pub object : ObjId
      pub is : placed_by entries object ≡ Some place
      pub waits : Waits naming declarations headers d.0 object.0

    edge_waits : (d : ObjId) (i j : ℕ) → placed_by entries d ≡ Some i → HasEdge graph i j → Leads d j
    edge_waits d i j e leads =
        let at = row_declared found declarations i j leads in
        let here = place_is d i e in
        let one : here.declaration ≡ at.0 = cc (here.at, at.1) in
        let is = place_of (placed_by entries) (awaited_by naming headers at.0) j at.2 in
        record {
          object = record { 0 = is.number };
          is = is.is;
          waits = record { declaration = at.0; declared = here.declared ∙ ap Some one; awaits = is.among };
        }

    waits_edge : (d e : ObjId) (i j : ℕ) → placed_by entries d ≡ Some i → placed_by entries e ≡ Some j → Waits naming declarations headers d.0 e.0 → HasEdge graph i j
    waits_edge d e i j at there w =
        let here = place_is d i at in
        let one : here.declaration ≡ w.declaration = cc (here.declared, w.declared) in
        let row : row_at graph i ≡ found w.declaration = declared_row found declarations i w.declaration (here.at ∙ ap Some one) in
        subst (λ (xs : List ℕ). Contains xs j) (sym row) (has_place (placed_by entries) (awaited_by naming headers w.declaration) e.0 j w.awaits there)

    record Chained (d : ObjId) (place : ℕ) : Type 0 where
      pub object : ObjId
      pub is : placed_by entries object ≡ Some place
      pub chain : Chain naming declarations headers d.0 object.0

    path_chain : (d : ObjId) (i j : ℕ) → placed_by entries d ≡ Some i → Path graph i j → Chained d j
    path_chain d i j e (start _ leads) =
        let next = edge_waits d i j e leads in
        record { object = next.object; is = next.is; chain = one next.object.0 next.waits }
    path_chain d i j e (further b _ p leads) =
        let so_far = path_chain d i b e p in
        let next = edge_waits so_far.object b j so_far.is leads in
        record { object = next.object; is = next.is; chain = more so_far.object.0 next.object.0 so_far.chain next.waits }

    -- what stands inside a chain waits, and so is declared; what has no place ends it
    chain_path : (d : ObjId) (e i j : ℕ) → placed_by entries d ≡ Some i → placed_by entries (record { 0 = e }) ≡ Some j → Chain naming declarations headers d.0 e → Path graph i j
    chain_path d e i j at there (one _ w) = start j (waits_edge d (record { 0 = e }) i j at there w)
    chain_path d e i j at there (more b _ chain w) =
        let inside = has_own_place b w.declaration w.declared in
        further inside.place j (chain_path d b i inside.place at inside.is chain) (waits_edge (record { 0 = b }) (record { 0 = e }) inside.place j inside.is there w)

    -- the first of a chain waits
    first_place : (d e : ℕ) → Chain naming declarations headers d e → HasPlace d
    first_place d e (one _ w) = has_own_place d w.declaration w.declared
    first_place d e (more b _ chain w) = first_place d b chain

    -- the vertices from which a path leads back are the places of what waits for itself
    pub marks_are_chains : (marks : List Bool) → ((i : ℕ) → (is_marked marks i ≡ true) ↔ Path graph i i) → (d : ℕ) → (marked_by (placed_by entries) marks d ≡ true) ↔ Chain naming declarations headers d d
    marks_are_chains marks exact d = (to_chain (placed_by entries (record { 0 = d })) refl, to_mark)
      where
        to_chain : (o : Option ℕ) → placed_by entries (record { 0 = d }) ≡ o → marked_by (placed_by entries) marks d ≡ true → Chain naming declarations headers d d
        to_chain None at e = absurd (let never : false ≡ true = sym (ap (mark_at marks) at) ∙ e in cc)
        to_chain (Some i) at e =
            let back = path_chain (record { 0 = d }) i i at ((exact i).0 (sym (ap (mark_at marks) at) ∙ e)) in
            let same : back.object.0 ≡ d = ap (λ (k : ObjId). k.0) (one_object back.object (record { 0 = d }) i back.is at) in
            subst (Chain naming declarations headers d) same back.chain

        to_mark : Chain naming declarations headers d d → marked_by (placed_by entries) marks d ≡ true
        to_mark chain =
            let here = first_place d d chain in
            ap (mark_at marks) here.is ∙ (exact here.place).1 (chain_path (record { 0 = d }) d here.place here.place here.is here.is chain)

-- by outcomes that walks left the graph is the same
pub read_graph : (entries : List (ObjId × ℕ)) (naming : Naming) (headers : Headers) (declarations : List Declaration) (outcomes : Outcomes) → AreWalked naming headers (flat_map nodes_under declarations) outcomes
    → waits_of (placed_by entries) (awaited_under (outcome_read outcomes)) declarations ≡ waits_of (placed_by entries) (awaited_by naming headers) declarations
read_graph entries naming headers declarations outcomes walked = map-same (awaited_places (placed_by entries) (awaited_under (outcome_read outcomes))) (awaited_places (placed_by entries) (awaited_by naming headers)) declarations each
  where
    each : (d : Declaration) → Contains declarations d → awaited_places (placed_by entries) (awaited_under (outcome_read outcomes)) d ≡ awaited_places (placed_by entries) (awaited_by naming headers) d
    each d in_d =
        ap (flat_map (place_list (placed_by entries)))
        (flat_map-same (awaited_among (outcome_read outcomes)) (awaited_by_nodes naming headers) (rests_on d)
        (λ t in_t. flat_map-same (λ node. awaited_in (outcome_read outcomes node)) (λ node. awaited_in (outcome naming headers node)) (expressions_in t)
        (λ node in_node. ap awaited_in (read_is naming headers (flat_map nodes_under declarations) outcomes walked node
        (flat_contains nodes_under declarations d node in_d (flat_contains expressions_in (rests_on d) t node in_t in_node))))))
