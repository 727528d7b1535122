-- Declarations and scope; Blank identifier; Qualified identifiers (Go specification).
-- Decides which occurrences of identifiers break a rule: P7, P12, P13, P14, U8.
use Rattle.std.specs.Prelude.{ℕ, Bool, true, false, not, ◌&&◌, ◌||◌, is_none, is_some, List, [], ◌++◌, Option, Some, None, option_and_then, codes}
use Rattle.std.specs.List.{flat_map}
use Rattle.std.specs.Option.{option_map_or}
use Rattle.go_base.specs.declared.rule.Broken.{Broken}
use Rattle.go_base.specs.declared.rule.Family.TheVariants.{P, U}
use Rattle.go_base.specs.declared.rule.Rule.{Rule}
use Rattle.go_module.specs.declared.block.Block.{Block}
use Rattle.go_module.specs.declared.block.Block.TheVariants.{Universe, Package, File}
use Rattle.go_module.specs.declared.block.Occurrence.{Occurrence}
use Rattle.go_module.specs.declared.block.Region.{Region}
use Rattle.go_module.specs.declared.block.Selected.{Selected}
use Rattle.go_module.specs.Broken.{broken_at, told_if}
use Rattle.go_module.specs.Modules.Paths.{same_text}
use Rattle.go_module.specs.Names.Exported.{is_blank_identifier}
use Rattle.go_module.specs.Names.Imports.{PackageNames}
use Rattle.go_module.specs.Names.Regions.{resolution, is_held}

abbrev pub undeclared_name : Rule
undeclared_name = record { family = P; number = 7 }

abbrev pub blank_value : Rule
blank_value = record { family = P; number = 12 }

abbrev pub misplaced_package : Rule
misplaced_package = record { family = P; number = 13 }

abbrev pub missing_member : Rule
missing_member = record { family = P; number = 14 }

abbrev pub complex_name : Rule
complex_name = record { family = U; number = 8 }

-- P7: "Every identifier in a program must be declared"
abbrev pub undeclared_at : List Region → Occurrence → List Broken
undeclared_at regions o = told_if (not (is_blank_identifier o.name) && not (is_held regions o)) (broken_at o.file o.at undeclared_name)

-- P12: "The blank identifier may appear as an operand only on the left-hand side of an assignment statement"
abbrev pub blank_at : Occurrence → List Broken
blank_at o = told_if (is_blank_identifier o.name) (broken_at o.file o.at blank_value)

-- the package that an occurrence denotes, by its place in the module
abbrev pub denoted_package : List Region → Occurrence → Option ℕ
denoted_package regions o = option_and_then (λ r. r.denotes) (resolution regions o)

-- P13: a package name that stands other than before a `.`
abbrev pub misplaced_at : List Region → Occurrence → List Broken
misplaced_at regions o = told_if (is_none o.selected && is_some (denoted_package regions o)) (broken_at o.file o.at misplaced_package)

-- P14: "The identifier must be exported and declared in the package block of that package"
abbrev pub missing_in : (ℕ → PackageNames) → ℕ → Option ℕ → Option Selected → List Broken
missing_in known file None selected = []
missing_in known file (Some k) None = []
missing_in known file (Some k) (Some s) = told_if (is_none ((known k).exported s.name)) (broken_at file s.at missing_member)

abbrev pub missing_at : (ℕ → PackageNames) → List Region → Occurrence → List Broken
missing_at known regions o = missing_in known o.file (denoted_package regions o) o.selected

-- U8, own: complex numbers are not checked
abbrev pub is_universe_block : Block → Bool
is_universe_block Universe = true
is_universe_block Package = false
is_universe_block (File file) = false

abbrev pub is_complex_name : List ℕ → Bool
is_complex_name name =
    same_text name (codes "complex64") || (same_text name (codes "complex128")
    || (same_text name (codes "complex") || (same_text name (codes "real") || same_text name (codes "imag"))))

abbrev pub is_complex : Region → Bool
is_complex r = is_universe_block r.block && is_complex_name r.object.name

abbrev pub complex_at : List Region → Occurrence → List Broken
complex_at regions o = told_if (option_map_or is_complex (resolution regions o) false) (broken_at o.file o.at complex_name)

-- what an occurrence breaks
abbrev pub broken_occurrence : (ℕ → PackageNames) → List Region → Occurrence → List Broken
broken_occurrence known regions o =
    undeclared_at regions o ++ (blank_at o ++ (misplaced_at regions o ++ (missing_at known regions o ++ complex_at regions o)))

abbrev pub broken_occurrences : (ℕ → PackageNames) → List Region → List Occurrence → List Broken
broken_occurrences known regions occurrences = flat_map (broken_occurrence known regions) occurrences
