-- Where the parts of a node start.
use Rattle.std.proofs.Common.{◌≡◌, ℕ, Option, Some, None, List, map, sym, ap, ◌∙◌}
use Rattle.std.specs.Prelude.{slice_get}
use Rattle.std.specs.Option.{option_map, option_map_or}
use Rattle.std.proofs.lemmas.Option.{slice_get-map}
use Rattle.go_tree.specs.declared.node.Node.{Node}
use Rattle.go_tree.specs.Tree.{Tree, list_of, parts_of, start_of, tree_of, trees_of}
use Rattle.go_tree.proofs.TreeLemmas.{list_of-trees_of}
use Rattle.go_model.specs.Outcomes.Readings.{start_among}

of_part : (t : Tree) (parts : List Node) (n : ℕ) (o : Option Node) → slice_get parts n ≡ o → option_map_or start_of (slice_get (map tree_of parts) n) (start_of t) ≡ option_map_or (λ part. start_of (tree_of part)) o (start_of t)
of_part t parts n None at = ap (λ (o : Option Tree). option_map_or start_of o (start_of t)) (slice_get-map tree_of parts n ∙ ap (option_map tree_of) at)
of_part t parts n (Some part) at = ap (λ (o : Option Tree). option_map_or start_of o (start_of t)) (slice_get-map tree_of parts n ∙ ap (option_map tree_of) at)

pub part_start_is : (t : Tree) (parts : List Node) (n : ℕ) → trees_of (map tree_of parts) ≡ parts_of t → (o : Option Node) → slice_get parts n ≡ o → start_among (list_of (parts_of t)) t n ≡ option_map_or (λ part. start_of (tree_of part)) o (start_of t)
part_start_is t parts n are o at =
    ap (λ (ts : List Tree). option_map_or start_of (slice_get ts n) (start_of t)) (ap list_of (sym are) ∙ list_of-trees_of (map tree_of parts))
    ∙ of_part t parts n o at
