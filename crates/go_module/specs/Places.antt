-- Source code representation (Go specification).
-- Decides the places of texts as a report has them.
use Rattle.std.specs.Prelude.{ℕ, ◌==◌, Bool, false, List, [], find, slice_get, unwrap_or}
use Rattle.std.specs.Option.{option_map_or}
use Rattle.go_base.specs.Place.{line_of, column_of}
use Rattle.go_base.specs.declared.rule.Broken.{Broken}
use Rattle.go_module.specs.declared.places.At.{At}
use Rattle.go_module.specs.declared.places.Placed.{Placed}
use Rattle.go_module.specs.Modules.Module.{FileData, PackageData}
use Rattle.go_module.specs.Modules.Texts.{SourceText}

-- the place of a broken rule in a text, and the rule
abbrev pub placed_in : SourceText → Broken → Placed
placed_in text b = record {
  at = record { stub = text.stub; file = text.path; line = line_of text.bytes b.pos.offset; col = column_of text.bytes b.pos.offset };
  rule = b.rule;
}

abbrev pub empty_text : SourceText
empty_text = record { stub = false; path = []; bytes = [] }

-- the same, where the file of the place is the number of a text
abbrev pub placed_among : List SourceText → Broken → Placed
placed_among texts b = placed_in (unwrap_or (slice_get texts b.pos.file) empty_text) b

-- the place of an offset into a file, below the root of the module or below that of stubs
abbrev pub at_offset : Bool → FileData → ℕ → At
at_offset stub f offset = record { stub = stub; file = f.path; line = line_of f.bytes offset; col = column_of f.bytes offset }

-- the number of the file at a place among files, and 0 where there is none
abbrev pub number_at : List FileData → ℕ → ℕ
number_at files place = option_map_or (λ (f : FileData). f.number) (slice_get files place) 0

-- a rule that is broken in the file at a place among files, told by the number of that file
abbrev pub with_number : List FileData → Broken → Broken
with_number files b = record b { pos = record { file = number_at files b.pos.file; offset = b.pos.offset } }

abbrev pub text_of : Bool → FileData → SourceText
text_of stub f = record { stub = stub; path = f.path; bytes = f.bytes }

-- the file of a package that has a number
abbrev pub text_numbered : PackageData → ℕ → SourceText
text_numbered p number = option_map_or (text_of p.stub) (find (λ (f : FileData). f.number == number) p.files) empty_text

-- a broken rule of a package, in the file that has the number of its place
abbrev pub placed_by : PackageData → Broken → Placed
placed_by p b = placed_in (text_numbered p b.pos.file) b
