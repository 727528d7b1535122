-- What is read of go.mod, and what it says.
use Rattle.std.specs.Prelude.{◌≡◌, ◌≢◌, ℕ, Bool, true, false, List, [], ◌∷◌, Option, None, Some, map, nat_eq, unwrap_or}
use Rattle.std.specs.Cmp.Lexicographic.{pointwise}
use Rattle.std.specs.List.{list_any}
use Rattle.go_base.specs.declared.rule.Broken.{Broken as BrokenRule}
use Rattle.go_base.specs.declared.tree.MemFile.{MemFile}
use Rattle.go_module.specs.declared.places.Placed.{Placed}
use Rattle.go_module.specs.Broken.{broken_at}
use Rattle.go_module.specs.Modules.Texts.{SourceText}
use Rattle.go_module.specs.Order.{IsListOf}
use Rattle.go_module.specs.Places.{placed_in}
use Rattle.go_mod.specs.ModuleRules.{broken_rules, missing_module_file, module_file_path, module_lines}
use Rattle.go_load.specs.Texts.Calls.{IsReadAt}
use Rattle.go_load.specs.declared.load_fault.LoadFault.{LoadFault}
use Rattle.go_load.specs.declared.load_fault.LoadFault.TheVariants.{Broken, ReadFault, NoMemory}

-- go.mod is one of the files
abbrev pub is_listed : List (List ℕ) → Bool
is_listed names = list_any (pointwise nat_eq module_file_path) names

-- its bytes, where it is one
abbrev pub IsModuleRead : Option (List MemFile) → List ℕ → List (List ℕ) → Option (List ℕ) → Type 0
IsModuleRead told root names None = is_listed names ≡ false
IsModuleRead told root names (Some bytes) = (is_listed names ≡ true) × IsReadAt told root module_file_path bytes

-- go.mod with these bytes, as a text
abbrev pub module_text_with : List ℕ → SourceText
module_text_with bytes = record { stub = false; path = module_file_path; bytes = bytes }

-- the rules that it breaks
abbrev pub rules_of : Option (List ℕ) → List BrokenRule
rules_of None = broken_at 0 0 missing_module_file ∷ []
rules_of (Some bytes) = broken_rules bytes

-- the list of these rules is told
abbrev pub IsTold : List ℕ → List BrokenRule → LoadFault → Type 0
IsTold bytes list (Broken placed) = placed.items ≡ map (placed_in (module_text_with bytes)) list
IsTold bytes list ReadFault = ⊥
IsTold bytes list NoMemory = ⊥

-- all rules that go.mod breaks, at least one
pub record TellsModuleFile (read : Option (List ℕ)) (list : List Placed) : Type 0 where
  pub some : list ≢ []
  pub broken : List BrokenRule
  pub is_list : IsListOf (rules_of read) broken
  pub placed : list ≡ map (placed_in (module_text_with (unwrap_or read []))) broken

abbrev pub IsFaultOf : Option (List ℕ) → LoadFault → Type 0
IsFaultOf read (Broken list) = TellsModuleFile read list.items
IsFaultOf read ReadFault = Unit {0}
IsFaultOf read NoMemory = Unit {0}

-- the path that it names, where it breaks no rule
abbrev pub IsPathIn : Option (List ℕ) → List ℕ → Type 0
IsPathIn None path = ⊥
IsPathIn (Some bytes) path = (broken_rules bytes ≡ []) × (map (λ line. line.text) (module_lines bytes) ≡ path ∷ [])

-- both for what is read of a tree, where these are the paths of all files
pub record IsModulePath (told : Option (List MemFile)) (root : List ℕ) (names : List (List ℕ)) (path : List ℕ) : Type 0 where
  pub read : Option (List ℕ)
  pub is_read : IsModuleRead told root names read
  pub path_is : IsPathIn read path

pub record TellsRead (told : Option (List MemFile)) (root : List ℕ) (names : List (List ℕ)) (list : List Placed) : Type 0 where
  pub read : Option (List ℕ)
  pub is_read : IsModuleRead told root names read
  pub tells : TellsModuleFile read list

abbrev pub IsModuleFault : Option (List MemFile) → List ℕ → List (List ℕ) → LoadFault → Type 0
IsModuleFault told root names (Broken list) = TellsRead told root names list.items
IsModuleFault told root names ReadFault = Unit {0}
IsModuleFault told root names NoMemory = Unit {0}
