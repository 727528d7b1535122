-- The names that one block declares, and which region an occurrence denotes by the blocks around it.
use Rattle.std.specs.Prelude.{◌≡◌, ◌||◌, ℕ, Bool, true, false, if◌then◌else◌, List, Option, Some, None, position, find}
use Rattle.std.specs.List.{list_any}
use Rattle.std.specs.Map.{lookup}
use Rattle.std.specs.Option.{option_map}
use Rattle.go_module.specs.declared.block.Region.{Region}
use Rattle.go_module.specs.Modules.Paths.{same_text}
use Rattle.go_module.specs.Names.Rules.BlockRules.{is_repeated}
use Rattle.go_module.specs.Names.Regions.{has_name}
use Rattle.go_scope.specs.declared.held.Held.{Held}

-- where a name is declared first, and whether again
abbrev pub held_of : List Region → List ℕ → Option Held
held_of regions name = option_map (λ i. record { first = i; several = is_repeated regions name }) (position (has_name name) regions)

-- a table has this for each name
abbrev pub ArePlaces : List Region → List (List ℕ × Held) → Type 0
ArePlaces regions places = (name : List ℕ) → lookup (same_text name) places ≡ held_of regions name

-- the one region of the name in a block
abbrev pub only_of : List Region → List ℕ → Option Region
only_of regions name = if is_repeated regions name then None else find (has_name name) regions

-- the region that a name denotes: that of the innermost block which declares it, where that has one
abbrev pub innermost : List Region → List Region → List Region → List ℕ → Option Region
innermost universe block file name =
    if list_any (has_name name) file then only_of file name
    else if list_any (has_name name) block then only_of block name
    else only_of universe name

-- whether one of the blocks declares it
abbrev pub is_declared : List Region → List Region → List Region → List ℕ → Bool
is_declared universe block file name = list_any (has_name name) file || (list_any (has_name name) block || list_any (has_name name) universe)

-- what is held of a name, once it is declared at a place
abbrev pub declared_at : ℕ → Option Held → Held
declared_at place None = record { first = place; several = false }
declared_at place (Some held) = record { first = held.first; several = true }

-- what is held of a name behind one more declaration, whether of this name
abbrev pub with_place : ℕ → Bool → Option Held → Option Held
with_place place same held = if same then Some (declared_at place held) else held
