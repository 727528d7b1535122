use Rattle.std.proofs.Common.{◌≡◌, ◌++◌, take}
use Rattle.std.specs.List.{flat_map}
use Rattle.go_scope.specs.Resolved as spec
use Rattle.go_scope.proofs.import_rules.add_unused.Given as goal

abbrev pub invariant-loop-import : goal.invariant-loop-import
invariant-loop-import l = l.found.items ≡ l.fn.found.items ++ flat_map (spec.unused_by l.file l.resolved) (take l.import-index l.imports)
