use Rattle.std.proofs.Common.{◌≡◌, ◌<◌, ◌||◌, ℕ, true, false, get_or, take}
use Rattle.go_mod.specs.Listing.{is_skipped_name}
use Rattle.go_mod.specs.ModuleFolders.{is_one}
use Rattle.go_module.specs.Modules.PathParts.{is_slash, last_element}
use Rattle.go_mod.proofs.listing.some_is_left_out.Given as goal

abbrev pub invariant-loop-end : goal.invariant-loop-end
invariant-loop-end l = (k : ℕ) → k < l.end → is_slash (get_or l.path k 0) ≡ true →
    (is_skipped_name (last_element (take k l.path)) || is_one l.modules (take k l.path)) ≡ false
