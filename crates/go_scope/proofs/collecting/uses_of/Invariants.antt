use Rattle.std.proofs.Common.{◌≡◌, [], map, take}
use Rattle.std.specs.List.{flat_map}
use Rattle.indexmap.specs.IndexMap.{insert_all}
use Rattle.go_module.specs.Scopes.{same_node}
use Rattle.go_scope.specs.Checked.{all_of}
use Rattle.go_scope.specs.Known.{known_by}
use Rattle.go_scope.specs.Resolved.{pairs_by}
use Rattle.go_scope.proofs.collecting.uses_of.Given as goal

abbrev pub invariant-loop-list : goal.invariant-loop-list
invariant-loop-list l = l.uses.entries ≡ insert_all same_node [] (flat_map (pairs_by (known_by l.before)) (all_of (map (λ list. list.items) (take l.list-index l.lists))))
