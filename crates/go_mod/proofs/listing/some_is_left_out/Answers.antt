use Rattle.std.proofs.Common.{◌||◌, ◌∙◌, sym, Bool, List, ℕ, arith, rules}
use Rattle.go_mod.specs.Listing.{is_skipped_name}
use Rattle.go_mod.specs.ModuleFolders.{is_one}
use Rattle.go_module.specs.Modules.PathParts.{last_element}
use Rattle.go_mod.proofs.ListingLemmas.{no_folder, some_folder}
use Rattle.go_mod.proofs.listing.some_is_left_out.Goals as goal

-- what is tested of a folder
abbrev left_out : List (List ℕ) → List ℕ → Bool
left_out modules folder = is_skipped_name (last_element folder) || is_one modules folder

pub returns-then-is_left_out : goal.returns-then-is_left_out
returns-then-is_left_out c =
    sym (some_folder (left_out c.args.modules.now) c.args.path.now c.loop-end.end (omega arith) (search rules)
    (sym c.is_left_out.ensures ∙ c.if-is_left_out.true))

pub returns : goal.returns
returns c =
    sym (no_folder (left_out c.args.modules.now) c.args.path.now
    (λ k short at. c.loop-end.invariant k (omega arith) at))
