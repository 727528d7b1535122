use Rattle.std.proofs.Common.{◌≡◌, ◌++◌, take}
use Rattle.std.specs.List.{flat_map}
use Rattle.go_module.specs.Names.Rules.BlockRules.{repeated_at}
use Rattle.go_scope.proofs.block_rules.add_repeated.Given as goal

abbrev pub invariant-loop-region : goal.invariant-loop-region
invariant-loop-region l = l.found.items ≡ l.fn.found.items ++ flat_map (repeated_at l.block) (take l.region-index l.region-items)
