-- What a value holds by one layer of its type, and the graph in which the place of each declaration leads to those of
-- what a value holds.
use Rattle.std.specs.Prelude.{ℕ, Bool, Option, Some, List, [], ◌∷◌, map, option_to_list}
use Rattle.std.specs.List.{flat_map}
use Rattle.go_base.specs.declared.ids.ObjId.{ObjId}
use Rattle.go_base.specs.declared.rule.Broken.{Broken}
use Rattle.go_graph.specs.Graph.{Graph}
use Rattle.go_module.specs.Names.Declarations.{Declaration, number_of}
use Rattle.go_term.specs.declared.shape.Shape.{Shape}
use Rattle.go_term.specs.declared.shape.Shape.TheVariants.{Named}
use Rattle.go_judge.specs.Records.{HeaderData, definition}
use Rattle.go_judge.specs.Headers.{Headers}
use Rattle.go_values.specs.ByValue.{contained_at, held_in}

-- the type itself, where a definition has it
abbrev pub named_at : Shape → List ObjId
named_at (Named d ts) = d ∷ []
named_at shape = []

-- what a value of the type that a declaration with this header defines holds
abbrev pub held_by : Option HeaderData → List ObjId
held_by (Some (definition params right methods)) = held_in right
held_by header = []

-- the place of a declaration, if it has one
abbrev pub place_list : (ObjId → Option ℕ) → ObjId → List ℕ
place_list places d = option_to_list (places d)

-- over headers: the places of what the type that a declaration defines holds, and the graph of all
module _ (places : ObjId → Option ℕ) (headers : Headers) where
  abbrev pub places_held : ObjId → List ℕ
  places_held d = flat_map (place_list places) (held_by (headers d.0))

  abbrev pub graph_of : List Declaration → Graph
  graph_of declarations = map (λ d. places_held (number_of d)) declarations

-- what these break, by the places of their files
abbrev pub broken_in : (ℕ → Bool) → List Declaration → List Broken
broken_in contained declarations = flat_map (λ d. contained_at (contained (number_of d).0) d) declarations
