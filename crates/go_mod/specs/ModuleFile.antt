-- What a program reads of go.mod.
use Rattle.std.specs.Prelude.{◌≡◌, ◌≢◌, ℕ, List, [], ◌∷◌, map}
use Rattle.go_mod.specs.declared.module_file.ModuleFile.{ModuleFile}
use Rattle.go_mod.specs.declared.module_file.ModuleFile.TheVariants.{Good, Broken}
use Rattle.go_module.specs.Order.{IsListOf}
use Rattle.go_mod.specs.ModuleRules.{broken_rules, module_lines}

-- a good file breaks no rule: its one module line has the path, and the version is 1.21; of any other
-- file all broken rules are told
abbrev pub IsModuleFile : List ℕ → ModuleFile → Type 0
IsModuleFile bytes (Good path version) = (broken_rules bytes ≡ []) × (map (λ l. l.text) (module_lines bytes) ≡ path ∷ []) × (version ≡ 21)
IsModuleFile bytes (Broken list) = (broken_rules bytes ≢ []) × IsListOf (broken_rules bytes) list.items
