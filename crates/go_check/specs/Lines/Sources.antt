-- Files of a package that are found by their numbers.
use Rattle.std.specs.Prelude.{Bool, Option}
use Rattle.std.specs.Option.{option_map_or}
use Rattle.go_module.specs.declared.module.SourceFile.{SourceFile}
use Rattle.go_module.specs.Modules.Module.{file_view}
use Rattle.go_module.specs.Modules.Texts.{SourceText}
use Rattle.go_module.specs.Places.{empty_text, text_of}

-- the text of a file below a root, and an empty one where there is no file
abbrev pub source_of : Bool → Option SourceFile → SourceText
source_of stub file = option_map_or (λ (f : SourceFile). text_of stub (file_view f)) file empty_text
