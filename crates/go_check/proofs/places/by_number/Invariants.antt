use Rattle.std.proofs.Common.{◌≡◌, ℕ, ◌==◌, drop, nat_eq}
use Rattle.std.specs.List.{find}
use Rattle.std.specs.Option.{option_copied}
use Rattle.indexmap.specs.IndexMap.{get}
use Rattle.go_module.specs.Modules.Module.{file_view}
use Rattle.go_check.proofs.places.by_number.Given as goal

-- the table has the files from the place on by their numbers
abbrev pub invariant-loop-place : goal.invariant-loop-place
invariant-loop-place l =
    (number : ℕ) → option_copied (get nat_eq l.table number) ≡ find (λ file. (file_view file).number == number) (drop l.place l.files)
