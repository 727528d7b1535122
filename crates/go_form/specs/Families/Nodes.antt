-- Places of nodes.
-- Says where a node stands that breaks a rule, and where those nodes of a list stand that do.
use Rattle.std.specs.Prelude.{ℕ, Bool, if◌then◌else◌, List, [], ◌∷◌, ◌++◌}
use Rattle.go_tree.specs.Tree.{Tree, Trees, no_trees, more_trees, start_of}

-- a node's place is its first byte
abbrev pub place_if : Bool → Tree → List ℕ
place_if broken t = if broken then start_of t ∷ [] else []

-- the places of those nodes for which the test holds
abbrev pub places_where : (Tree → Bool) → Trees → List ℕ
places_where holds no_trees = []
places_where holds (more_trees t ts) = place_if (holds t) t ++ places_where holds ts
