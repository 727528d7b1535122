-- What the names of the packages of a module denote or break, package after package.
use Rattle.std.specs.Prelude.{◌≡◌, ℕ, ◌<◌, Bool, true, false, List, [], ◌∷◌, ◌++◌, Some, Contains, length, slice_get}
use Rattle.std.specs.Option.{option_map_or}
use Rattle.go_module.specs.Modules.Module.{ModuleData, PackageData}
use Rattle.go_scope.specs.Collecting.{IsBrokenNames, IsCollected}
use Rattle.go_check.specs.declared.names.NamesVerdict.{NamesVerdict}
use Rattle.go_check.specs.declared.names.NamesVerdict.TheVariants.{Sound, Broken, Unasked}
use Rattle.go_check.specs.declared.names.Names.{Names}

abbrev pub is_sound : NamesVerdict → Bool
is_sound Sound = true
is_sound (Broken list) = false
is_sound Unasked = false

-- the names of the package at a place break no rule
abbrev pub sound_at : List NamesVerdict → ℕ → Bool
sound_at verdicts q = option_map_or is_sound (slice_get verdicts q) false

-- each package that this one, at a place, imports stands before it, and its names break no rule
abbrev pub ImportsSound : List NamesVerdict → ℕ → PackageData → Type 0
ImportsSound verdicts k p = (i : ℕ) → Contains p.imports i → (i < k) × (sound_at verdicts i ≡ true)

-- one more stands behind
pub record AddsOne {X : Type 0} (old new : List X) : Type 0 where
  pub one : X
  pub added : new ≡ old ++ one ∷ []

-- what is broken is all that the names of the package at a place break
abbrev pub IsBrokenAt : ModuleData → ℕ → NamesVerdict → Type 0
IsBrokenAt m q Sound = Unit {0}
IsBrokenAt m q (Broken list) = IsBrokenNames m q list.items
IsBrokenAt m q Unasked = Unit {0}

-- the packages before the place k are asked: each whose names are sound has its scopes; each other that was asked has
-- the list of what its names break; and one that was not asked imports one whose names are not sound
pub record AreNames (m : ModuleData) (k : ℕ) (names : Names) : Type 0 where
  pub scopes_length : length names.scopes.items ≡ k
  pub verdicts_length : length names.verdicts.items ≡ k
  pub sound : (q : ℕ) → sound_at names.verdicts.items q ≡ true → IsCollected m q names.scopes.items
  pub broken : (q : ℕ) (verdict : NamesVerdict) → slice_get names.verdicts.items q ≡ Some verdict → IsBrokenAt m q verdict
  pub unasked : (q : ℕ) (p : PackageData) → slice_get names.verdicts.items q ≡ Some Unasked → slice_get m.packages q ≡ Some p → ImportsSound names.verdicts.items q p → ⊥
