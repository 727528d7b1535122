-- Laws of modules.
-- Says how the packages of a module stand to one another.
use Rattle.std.specs.Prelude.{◌≡◌, ℕ, ◌<◌, Some, slice_get, Contains}
use Rattle.go_module.specs.Modules.Module.{ModuleData, PackageData}

-- each package stands behind all that it imports, and no two have one path
pub record ImportsStandBefore (m : ModuleData) : Type 0 where
  pub before : (k : ℕ) (p : PackageData) → slice_get m.packages k ≡ Some p → (i : ℕ) → Contains p.imports i → i < k
  pub once : (j k : ℕ) (p q : PackageData) → slice_get m.packages j ≡ Some p → slice_get m.packages k ≡ Some q → p.path ≡ q.path → j ≡ k
