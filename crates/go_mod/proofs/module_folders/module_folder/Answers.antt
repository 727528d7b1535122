use Rattle.std.proofs.Common.{◌≡◌, ◌∙◌, ◌<◌, ap, sym, false, Bor, List, ℕ, nat_eq, length, arith}
use Rattle.std.specs.Cmp.Lexicographic.{pointwise}
use Rattle.std.specs.Option.{option_map_or}
use Rattle.std.proofs.lemmas.Bool.Decides.{nat_tests}
use Rattle.go_mod.proofs.ModuleFolderLemmas.{front_is, other_end, root_is_none, other_is_one}
use Rattle.go_mod.proofs.module_folders.module_folder.Goals as goal

pub returns-in_err-folder : goal.returns-in_err-folder
returns-in_err-folder c = λ folder.
    ap (λ r. option_map_or (λ (own : Bor (List ℕ)). pointwise nat_eq folder own.now) r false) c.from_residual.ensures
    ∙ other_end c.args.path.now folder c.in_err-folder.ensures.cases

pub returns-then-is_empty : goal.returns-then-is_empty
returns-then-is_empty c = λ folder.
    let cases = c.in_ok-folder.ensures.cases in
    let own = c.in_ok-folder.folder.now in
    let none : length own ≡ 0 = grind (arith, nat_tests) in
    root_is_none folder own none ∙ sym (front_is c.args.path.now own cases.0 cases.1 folder)

pub returns-else-is_empty : goal.returns-else-is_empty
returns-else-is_empty c = λ folder.
    let cases = c.in_ok-folder.ensures.cases in
    let own = c.in_ok-folder.folder.now in
    let some : 0 < length own = grind (arith, nat_tests) in
    other_is_one folder own some ∙ sym (front_is c.args.path.now own cases.0 cases.1 folder)
