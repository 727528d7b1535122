-- Exported identifiers; Blank identifier (Go specification).
-- Decides which names of the package block are exported, and which identifier declares nothing.
use Rattle.std.specs.Prelude.{ℕ, Bool, true, false, List, Option, Some, None, codes}
use Rattle.ucd_category.specs.declared.GeneralCategory.{GeneralCategory}
use Rattle.ucd_category.specs.declared.GeneralCategory.TheVariants.{UppercaseLetter}
use Rattle.ucd_category.specs.GeneralCategory.{general_category}
use Rattle.go_tree.specs.Lexical.Characters.{decoded_at}
use Rattle.go_module.specs.Modules.Paths.{same_text}

-- "Unicode character category Lu"
abbrev pub is_uppercase_category : GeneralCategory → Bool
is_uppercase_category UppercaseLetter = true
is_uppercase_category _ = false

abbrev pub is_uppercase : Option ℕ → Bool
is_uppercase None = false
is_uppercase (Some c) = is_uppercase_category (general_category c)

-- "the first character of the identifier's name is a Unicode uppercase letter". That "the identifier is
-- declared in the package block" is left to those who ask.
abbrev pub is_exported : List ℕ → Bool
is_exported name = is_uppercase (decoded_at name 0).char

-- "The blank identifier is represented by the underscore character _."
abbrev pub is_blank_identifier : List ℕ → Bool
is_blank_identifier name = same_text name (codes "_")
