use Rattle.std.proofs.Common.{◌≡◌, take}
use Rattle.std.specs.List.{flat_map}
use Rattle.indexmap.specs.IndexMap.{insert_all}
use Rattle.go_module.specs.Scopes.{same_node}
use Rattle.go_scope.specs.Known.{known_by}
use Rattle.go_scope.specs.Resolved.{pairs_by}
use Rattle.go_scope.proofs.tables.add_uses.Given as goal

abbrev pub invariant-loop-r : goal.invariant-loop-r
invariant-loop-r l = l.uses.entries ≡ insert_all same_node l.fn.uses.entries (flat_map (pairs_by (known_by l.before)) (take l.r-index l.resolved))
