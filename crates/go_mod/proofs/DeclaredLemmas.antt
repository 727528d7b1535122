-- Lemmas on what lines declare.
use Rattle.std.proofs.Common.{◌≡◌, ℕ, ◌+◌, ◌<◌, List, ◌++◌, Option, length, map, drop, get_or, sym, ap, ◌∙◌}
use Rattle.std.specs.List.{filter_map, cons_option}
use Rattle.std.proofs.lemmas.List.{drop_more}
use Rattle.go_mod.specs.declared.module_lines.Line.{Line}
use Rattle.go_mod.specs.ModuleLines.{LineText}
use Rattle.go_mod.specs.ModuleRules.{declared_by, placed_at}
use Rattle.go_mod.specs.Seen.{seen}

-- what a line declares is told before what those behind it declare
pub declared_step : (declares : List ℕ → Option (List ℕ)) (lines : List Line) (i : ℕ) (d : Line) (o : Option (List ℕ)) (new old all : List LineText) → i < length lines →
    o ≡ declares (get_or lines i d).text.now →
    ((rest : List LineText) → new ++ rest ≡ old ++ cons_option (placed_at (get_or lines i d).offset o) rest) →
    old ++ filter_map (declared_by declares) (map seen (drop i lines)) ≡ all →
    new ++ filter_map (declared_by declares) (map seen (drop (i + 1) lines)) ≡ all
declared_step declares lines i d o new old all lt is step so_far =
    let rest = filter_map (declared_by declares) (map seen (drop (i + 1) lines)) in
    step rest
    ∙ ap (λ t. old ++ cons_option (placed_at (get_or lines i d).offset t) rest) is
    ∙ ap (λ ls. old ++ filter_map (declared_by declares) (map seen ls)) (sym (drop_more lines i d lt))
    ∙ so_far
