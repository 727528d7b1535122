-- What a package is to know of those that it imports.
use Rattle.std.specs.Prelude.{◌≡◌, ℕ, Some, Contains, slice_get}
use Rattle.go_module.specs.declared.module.Package.{Package}
use Rattle.go_module.specs.Modules.Module.{ModuleData, package_view}
use Rattle.go_module.specs.Names.Imports.{known_in}
use Rattle.go_scope.specs.declared.known.Before.{Before}
use Rattle.go_scope.specs.Known.{known_by}

-- the package stands at that place of the module, and each that it imports is known by what it is known by there
pub record StandsIn (m : ModuleData) (k : ℕ) (own : Package) (known : Before) : Type 0 where
  pub at : slice_get m.packages k ≡ Some (package_view own)
  pub imported : (q : ℕ) → Contains own.imports.items q → known_by known q ≡ known_in m q
