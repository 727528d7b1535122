-- The law of the numbers of files.
-- Says that in each package of a module no two files have one number, so that the number of a place tells its file.
use Rattle.std.specs.Prelude.{◌≡◌, ℕ, ◌<◌, Some, slice_get, AllPairs}
use Rattle.go_module.specs.Modules.Module.{FileData, ModuleData, PackageData}

-- in each package the number of each file is below those of all files that follow it
abbrev pub NumbersAscend : ModuleData → Type 0
NumbersAscend m = (k : ℕ) (p : PackageData) → slice_get m.packages k ≡ Some p → AllPairs (λ (f g : FileData). f.number < g.number) p.files
