use Rattle.std.proofs.Common.{◌≡◌, ◌++◌, map, drop}
use Rattle.std.specs.List.{filter_map}
use Rattle.go_mod.specs.ModulePath.{module_path}
use Rattle.go_mod.specs.ModuleRules.{declared_by}
use Rattle.go_mod.specs.Seen.{seen}
use Rattle.go_mod.proofs.module_file.module_lines.Given as goal

-- the lines so far and those of what is left are those of all
abbrev pub invariant-loop-line : goal.invariant-loop-line
invariant-loop-line l = map seen l.found.items ++ filter_map (declared_by module_path) (map seen (drop l.line-index l.lines)) ≡ filter_map (declared_by module_path) (map seen l.lines)
