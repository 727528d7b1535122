-- Names within types that stand several times, as the code has them.
use Rattle.std.specs.Prelude.{◌≡◌, ℕ, Bool, false, not, nat_lt, ◌&&◌, if◌then◌else◌, is_some, List, [], ◌∷◌, Option, None, Some, unwrap_or, count_by}
use Rattle.std.specs.Map.{lookup}
use Rattle.go_base.specs.declared.rule.Broken.{Broken}
use Rattle.go_base.specs.declared.rule.Rule.{Rule}
use Rattle.go_tree.specs.Tree.{Tree}
use Rattle.go_module.specs.Broken.{told_if}
use Rattle.go_module.specs.Modules.Paths.{same_text}
use Rattle.go_module.specs.Names.Declarations.{name_text}
use Rattle.go_module.specs.Names.Exported.{is_blank_identifier}
use Rattle.go_module.specs.Names.Rules.MemberRules.{broken_name}

-- of what stands so many times: whether several times
abbrev pub mark_by : ℕ → Option Bool
mark_by count = if nat_lt 0 count then Some (nat_lt 1 count) else None

-- the mark of a text among these names
abbrev pub mark_of : List Tree → List ℕ → Option Bool
mark_of names text = mark_by (count_by (λ other. same_text text (name_text other)) names)

-- a table has it for each text
abbrev pub AreMarks : List Tree → List (List ℕ × Bool) → Type 0
AreMarks names marks = (text : List ℕ) → lookup (same_text text) marks ≡ mark_of names text

-- the mark behind one more name, whether of this text
abbrev pub with_mark : Bool → Option Bool → Option Bool
with_mark same mark = if same then Some (is_some mark) else mark

-- what a name with this mark breaks
abbrev pub several_by : ℕ → Option ℕ → Rule → Option Bool → Tree → List Broken
several_by file told_at rule mark name = told_if (not (is_blank_identifier (name_text name)) && unwrap_or mark false) (broken_name file told_at rule name)
