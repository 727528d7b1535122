-- Places of broken rules.
use Rattle.std.specs.Prelude.{ℕ, ◌==◌, Bool, List, slice_get, unwrap_or}
use Rattle.go_base.specs.declared.rule.Broken.{Broken}
use Rattle.go_module.specs.Modules.Texts.{SourceText}
use Rattle.go_module.specs.Places.{empty_text}

-- the rule is broken in the file of that number
abbrev pub is_in : ℕ → Broken → Bool
is_in file b = b.pos.file == file

-- the text of that number
abbrev pub text_at : List SourceText → ℕ → SourceText
text_at texts file = unwrap_or (slice_get texts file) empty_text
