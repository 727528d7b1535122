use Rattle.std.proofs.Common.{◌≡◌, ◌++◌, drop}
use Rattle.go_term.specs.Types.{TypeData}
use Rattle.go_term.specs.declared.term.Term.{Term}
use Rattle.go_expr.specs.Given.{no_type_spots, recs_as}
use Rattle.go_expr.proofs.given.no_types.Given as goal

-- what is pushed, with the places of the records left, are all places
abbrev pub invariant-loop-place : goal.invariant-loop-place
invariant-loop-place l =
    (tree : Term → TypeData) → l.spots.items ++ no_type_spots l.place (recs_as tree (drop l.place l.recs)) ≡ no_type_spots 0 (recs_as tree l.recs)
