use Rattle.std.proofs.Common.{◌≡◌, ◌++◌, drop, map}
use Rattle.std.specs.Prelude.{unwrap_or}
use Rattle.go_tree.specs.Tree.{tree_of}
use Rattle.go_module.specs.Broken.{broken_at}
use Rattle.go_model.specs.Outcomes.Readings.{spot_start}
use Rattle.go_decl.proofs.broken.push_spots.Given as goal

-- what is pushed, with the spots left, is what is pushed in all
abbrev pub invariant-loop-spot : goal.invariant-loop-spot
invariant-loop-spot l =
    l.found.items ++ map (λ spot. broken_at l.file (unwrap_or l.told_at (spot_start (tree_of l.node) spot)) l.rule) (drop l.spot-index l.spots)
    ≡ l.fn.found.items ++ map (λ spot. broken_at l.file (unwrap_or l.told_at (spot_start (tree_of l.node) spot)) l.rule) l.spots
