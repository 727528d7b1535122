use Rattle.std.proofs.Common.{◌≡◌, map, drop}
use Rattle.go_tree.specs.Tree.{tree_of, trees_of, end_of}
use Rattle.go_parse_s.proofs.copies.last_end.Given as goal
use Rattle.go_parse_s.proofs.CopyLemmas.{end_behind}

abbrev pub invariant-loop-other : goal.invariant-loop-other
invariant-loop-other l = end_behind l.end (trees_of (map tree_of (drop l.other-index l.others))) ≡ end_behind (end_of (tree_of l.first)) (trees_of (map tree_of l.others))
