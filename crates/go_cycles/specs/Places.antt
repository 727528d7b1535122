-- The places of declarations by their numbers, and the graph in which each leads to the places of others.
use Rattle.std.specs.Prelude.{◌≡◌, ℕ, Bool, false, Option, None, Some, List, [], map, option_to_list, position}
use Rattle.std.specs.List.{flat_map}
use Rattle.std.specs.Map.{lookup}
use Rattle.go_base.specs.declared.ids.ObjId.{ObjId}
use Rattle.go_tree.specs.declared.node.NodeId.{NodeId}
use Rattle.go_graph.specs.Graph.{Graph, is_marked}
use Rattle.go_module.specs.Names.Declarations.{Declaration, numbers_of}
use Rattle.go_module.specs.Scopes.{same_object}
use Rattle.go_cycles.specs.declared.leading.Way.{Way}
use Rattle.go_cycles.specs.Leading.{names_of}

-- the place of the first of these objects that is that one
abbrev pub place_among : List ObjId → ObjId → Option ℕ
place_among numbers d = position (same_object d) numbers

-- the place that an object has by entries
abbrev pub placed_by : List (ObjId × ℕ) → ObjId → Option ℕ
placed_by entries d = lookup (same_object d) entries

-- entries are the places of declarations by their numbers: of several with one number that of the first
abbrev pub ArePlaces : List Declaration → List (ObjId × ℕ) → Type 0
ArePlaces declarations entries = (d : ObjId) → placed_by entries d ≡ place_among (numbers_of declarations) d

-- the place of what an identifier denotes, if any
abbrev pub place_named : (ObjId → Option ℕ) → Option ObjId → List ℕ
place_named places None = []
place_named places (Some d) = option_to_list (places d)

-- by what identifiers denote: the places of those to which a declaration leads, and the graph of all
module _ (denotes : NodeId → Option ObjId) (places : ObjId → Option ℕ) (way : Way) where
  abbrev pub places_led_to : Declaration → List ℕ
  places_led_to d = flat_map (λ name. place_named places (denotes name)) (names_of way d)

  abbrev pub graph_of : List Declaration → Graph
  graph_of declarations = map places_led_to declarations

-- whether the place of a number is marked
abbrev pub mark_at : List Bool → Option ℕ → Bool
mark_at marks None = false
mark_at marks (Some place) = is_marked marks place

abbrev pub marked_by : (ObjId → Option ℕ) → List Bool → ℕ → Bool
marked_by places marks d = mark_at marks (places (record { 0 = d }))
