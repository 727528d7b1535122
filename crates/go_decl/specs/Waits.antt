-- The waits of declarations as a graph.
use Rattle.std.specs.Prelude.{ℕ, Bool, false, List, Option, None, Some, map, option_to_list}
use Rattle.std.specs.List.{flat_map}
use Rattle.go_base.specs.declared.ids.ObjId.{ObjId}
use Rattle.go_graph.specs.Graph.{Graph, is_marked}
use Rattle.go_model.specs.Names.Declarations.{Declaration}

-- the place that a number has, if any
abbrev pub place_list : (ObjId → Option ℕ) → ℕ → List ℕ
place_list places n = option_to_list (places (record { 0 = n }))

-- by what says for whose headers the parts of a declaration wait: the places of these, and the graph in which each
-- declaration leads to them
abbrev pub awaited_places : (ObjId → Option ℕ) → (Declaration → List ℕ) → Declaration → List ℕ
awaited_places places awaited declaration = flat_map (place_list places) (awaited declaration)

abbrev pub waits_of : (ObjId → Option ℕ) → (Declaration → List ℕ) → List Declaration → Graph
waits_of places awaited declarations = map (awaited_places places awaited) declarations

-- whether the place of a number is marked
abbrev pub mark_at : List Bool → Option ℕ → Bool
mark_at marks None = false
mark_at marks (Some place) = is_marked marks place

abbrev pub marked_by : (ObjId → Option ℕ) → List Bool → ℕ → Bool
marked_by places marks d = mark_at marks (places (record { 0 = d }))
