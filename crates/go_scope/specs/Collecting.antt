-- What is asked of the scopes of the packages that stand before one, and what there is in the place of scopes.
use Rattle.std.specs.Prelude.{◌≡◌, ◌≢◌, ◌<◌, ℕ, List, [], Some, Contains, length, slice_get}
use Rattle.go_base.specs.declared.rule.Broken.{Broken as BrokenRule}
use Rattle.go_module.specs.declared.scopes.Scopes.{Scopes}
use Rattle.go_module.specs.Order.{IsListOf}
use Rattle.go_module.specs.Modules.Module.{PackageData, ModuleData}
use Rattle.go_module.specs.Names.Rules.BrokenNames.{broken_names}
use Rattle.go_module.specs.Names.Imports.{known_in}
use Rattle.go_module.specs.Names.Tables.{IsScopesOf}
use Rattle.go_scope.specs.declared.scope_fault.ScopeFault.{ScopeFault}
use Rattle.go_scope.specs.declared.scope_fault.ScopeFault.TheVariants.{Broken, NoMemory}

-- the scopes of the package at a place of the module stand at that place
pub record IsCollected (m : ModuleData) (q : ℕ) (before : List Scopes) : Type 0 where
  pub scopes : Scopes
  pub at : slice_get before q ≡ Some scopes
  pub is : IsScopesOf m q scopes

-- the module has a package at that place, and those that it imports have their scopes
pub record AreBefore (m : ModuleData) (k : ℕ) (before : List Scopes) : Type 0 where
  pub within : k < length m.packages
  pub imported : (p : PackageData) → slice_get m.packages k ≡ Some p → (q : ℕ) → Contains p.imports q → IsCollected m q before

-- all that the names of the package break, which is something
pub record IsBrokenNames (m : ModuleData) (k : ℕ) (list : List BrokenRule) : Type 0 where
  pub p : PackageData
  pub at : slice_get m.packages k ≡ Some p
  pub is_list : IsListOf (broken_names (known_in m) k p) list
  pub some : list ≢ []

abbrev pub IsScopeFault : ModuleData → ℕ → ScopeFault → Type 0
IsScopeFault m k (Broken list) = IsBrokenNames m k list.items
IsScopeFault m k NoMemory = Unit {0}
