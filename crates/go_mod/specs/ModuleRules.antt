-- The file go.mod (Go modules reference, "go.mod files").
-- Decides which rules it breaks and where: M1, M2, M3 and U1.
use Rattle.std.specs.Prelude.{ℕ, Bool, false, if◌then◌else◌, List, [], ◌∷◌, ◌++◌, Option, codes, map, nat_eq}
use Rattle.std.specs.Cmp.Lexicographic.{pointwise}
use Rattle.std.specs.List.{filter_map, list_any}
use Rattle.std.specs.Option.{option_map}
use Rattle.go_base.specs.declared.rule.Broken.{Broken}
use Rattle.go_base.specs.declared.rule.Family.TheVariants.{M, U}
use Rattle.go_base.specs.declared.rule.Rule.{Rule}
use Rattle.go_module.specs.Broken.{broken_at, told}
use Rattle.go_mod.specs.Folders.{Folder}
use Rattle.go_mod.specs.LanguageVersion.{go_version, is_1_21}
use Rattle.go_mod.specs.ModuleLines.{LineText, lines_of, outside_blocks}
use Rattle.go_mod.specs.ModulePath.{module_path}

-- M1: a root without go.mod
abbrev pub missing_module_file : Rule
missing_module_file = record { family = M; number = 1 }

-- M2: not exactly one good module line
abbrev pub module_line : Rule
module_line = record { family = M; number = 2 }

-- M3: not exactly one good go line
abbrev pub go_line : Rule
go_line = record { family = M; number = 3 }

-- U1: another version than 1.21
abbrev pub other_version : Rule
other_version = record { family = U; number = 1 }

-- a text, if there is one, at the offset of its line
abbrev pub placed_at : ℕ → Option (List ℕ) → Option LineText
placed_at offset declared = option_map (λ text. record { offset = offset; text = text }) declared

-- what a line declares, at the line's offset
abbrev pub declared_by : (List ℕ → Option (List ℕ)) → LineText → Option LineText
declared_by declares line = placed_at line.offset (declares line.text)

-- the good module lines, each with its path
abbrev pub module_lines : List ℕ → List LineText
module_lines bytes = filter_map (declared_by module_path) (outside_blocks false (lines_of bytes))

-- the good go lines, each with its version
abbrev pub go_lines : List ℕ → List LineText
go_lines bytes = filter_map (declared_by go_version) (outside_blocks false (lines_of bytes))

-- where there is not exactly one line: at the start of the file for none, and at each of several
abbrev pub unless_one : List LineText → List ℕ
unless_one [] = 0 ∷ []
unless_one (line ∷ []) = []
unless_one (line ∷ (other ∷ lines)) = map (λ l. l.offset) (line ∷ (other ∷ lines))

-- where the one go line has another version
abbrev pub other_versions : List LineText → List ℕ
other_versions [] = []
other_versions (line ∷ []) = if is_1_21 line.text then [] else line.offset ∷ []
other_versions (line ∷ (other ∷ lines)) = []

-- the rules that good module lines and good go lines break
abbrev pub broken_lines : List LineText → List LineText → List Broken
broken_lines modules gos =
    told 0 module_line (unless_one modules)
    ++ told 0 go_line (unless_one gos)
    ++ told 0 other_version (other_versions gos)

abbrev pub broken_rules : List ℕ → List Broken
broken_rules bytes = broken_lines (module_lines bytes) (go_lines bytes)

-- the file at which a module's own rules are told
abbrev pub module_file_path : List ℕ
module_file_path = codes "go.mod"

abbrev pub has_module_file : Folder → Bool
has_module_file folder = list_any (pointwise nat_eq module_file_path) folder.paths

-- what a root breaks by its go.mod
abbrev pub broken_module_file : Folder → List Broken
broken_module_file folder = if has_module_file folder then broken_rules (folder.bytes module_file_path) else broken_at 0 0 missing_module_file ∷ []
