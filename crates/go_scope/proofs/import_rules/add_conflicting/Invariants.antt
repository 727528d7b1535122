use Rattle.std.proofs.Common.{◌≡◌, ◌++◌, take}
use Rattle.std.specs.List.{flat_map}
use Rattle.go_module.specs.Names.Rules.ImportRules as rule
use Rattle.go_scope.proofs.import_rules.add_conflicting.Given as goal

abbrev pub invariant-loop-import : goal.invariant-loop-import
invariant-loop-import l = l.found.items ≡ l.fn.found.items ++ flat_map (rule.conflicting_at l.block l.file) (take l.import-index l.imports)
