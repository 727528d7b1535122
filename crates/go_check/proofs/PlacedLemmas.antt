-- Broken rules at the places in the file that has their number.
use Rattle.std.proofs.Common.{◌≡◌, ℕ, ◌==◌, Bool, true, false, cond, Option, Some, List, [], ◌∷◌, map, ap, refl, ◌∙◌}
use Rattle.std.specs.List.{find}
use Rattle.std.specs.Option.{option_map_or}
use Rattle.go_base.specs.declared.rule.Broken.{Broken}
use Rattle.go_module.specs.declared.module.SourceFile.{SourceFile}
use Rattle.go_module.specs.declared.module.Package.{Package}
use Rattle.go_module.specs.Modules.Module.{FileData, file_view, package_view}
use Rattle.go_module.specs.Places.{empty_text, placed_by, placed_in, text_of}
use Rattle.go_check.specs.Lines.Sources.{source_of}

-- the text of the file that has a number is that of the file of the program
found_text : (stub : Bool) (number : ℕ) (files : List SourceFile) → source_of stub (find (λ (f : SourceFile). (file_view f).number == number) files) ≡ option_map_or (text_of stub) (find (λ (f : FileData). f.number == number) (map file_view files)) empty_text
found_text stub number [] = refl
found_text stub number (f ∷ files) = by_test ((file_view f).number == number) (found_text stub number files)
  where
    by_test : (b : Bool) → source_of stub (find (λ (g : SourceFile). (file_view g).number == number) files) ≡ option_map_or (text_of stub) (find (λ (g : FileData). g.number == number) (map file_view files)) empty_text
        → source_of stub (cond b (Some f) (find (λ (g : SourceFile). (file_view g).number == number) files))
        ≡ option_map_or (text_of stub) (cond b (Some (file_view f)) (find (λ (g : FileData). g.number == number) (map file_view files))) empty_text
    by_test true rest = refl
    by_test false rest = rest

-- by what is found by numbers the rules stand at their places
pub placed_each : (own : Package) (found : ℕ → Option SourceFile) (list : List Broken) → ((q : ℕ) → found q ≡ find (λ (f : SourceFile). (file_view f).number == q) own.files.items) → map (λ (b : Broken). placed_in (source_of own.stub (found b.pos.file)) b) list ≡ map (placed_by (package_view own)) list
placed_each own found [] is = refl
placed_each own found (b ∷ list) is =
    ap (λ l. placed_in (source_of own.stub (found b.pos.file)) b ∷ l) (placed_each own found list is)
    ∙ ap (λ text. placed_in text b ∷ map (placed_by (package_view own)) list) (ap (source_of own.stub) (is b.pos.file) ∙ found_text own.stub b.pos.file own.files.items)
