-- Import declarations; Declarations and scope (Go specification).
-- Decides which imports of a file break a rule: P6, P10.
use Rattle.std.specs.Prelude.{Bool, false, not, ◌&&◌, List}
use Rattle.std.specs.List.{flat_map, list_any}
use Rattle.std.specs.Option.{option_map_or}
use Rattle.go_base.specs.declared.rule.Broken.{Broken}
use Rattle.go_base.specs.declared.rule.Family.TheVariants.{P}
use Rattle.go_base.specs.declared.rule.Rule.{Rule}
use Rattle.go_module.specs.declared.block.Import.{Import}
use Rattle.go_module.specs.declared.block.Occurrence.{Occurrence}
use Rattle.go_module.specs.declared.block.Region.{Region}
use Rattle.go_module.specs.Broken.{broken_at, told_if}
use Rattle.go_module.specs.Scopes.{same_node}
use Rattle.go_module.specs.Names.Rules.BlockRules.{is_repeated}
use Rattle.go_module.specs.Names.Regions.{has_name, resolution}

abbrev pub conflicting_import : Rule
conflicting_import = record { family = P; number = 6 }

abbrev pub unused_import : Rule
unused_import = record { family = P; number = 10 }

-- the import declares the name of the region
abbrev pub declares : Import → Region → Bool
declares i r = option_map_or (λ spec. same_node i.id spec) r.import false

-- P6: "no identifier may be declared in both the file and package block"
abbrev pub conflicts_with : List Region → Import → Region → Bool
conflicts_with block i r = declares i r && list_any (has_name r.object.name) block

abbrev pub conflicting_at : List Region → List Region → Import → List Broken
conflicting_at block file i = told_if (list_any (conflicts_with block i) file) (broken_at i.file i.at conflicting_import)

abbrev pub conflicting : List Region → List Region → List Import → List Broken
conflicting block file imports = flat_map (conflicting_at block file) imports

-- the occurrence denotes what the import declares
abbrev pub uses_import : List Region → Import → Occurrence → Bool
uses_import regions i o = option_map_or (declares i) (resolution regions o) false

-- a name that the import declares is declared again in the file's block
abbrev pub is_repeated_by : List Region → Import → Bool
is_repeated_by file i = list_any (λ r. declares i r && is_repeated file r.object.name) file

-- P10: "it is illegal .. to directly import a package without referring to any of its exported
-- identifiers". Own: not where one of its names is repeated.
abbrev pub is_unused : List Region → List Region → List Occurrence → Import → Bool
is_unused regions file occurrences i = not (is_repeated_by file i) && not (list_any (uses_import regions i) occurrences)

abbrev pub unused_at : List Region → List Region → List Occurrence → Import → List Broken
unused_at regions file occurrences i = told_if (is_unused regions file occurrences i) (broken_at i.file i.at unused_import)

abbrev pub unused : List Region → List Region → List Occurrence → List Import → List Broken
unused regions file occurrences imports = flat_map (unused_at regions file occurrences) imports
