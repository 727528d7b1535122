use Rattle.std.proofs.Common.{List, ℕ, subst}
use Rattle.std.specs.List.Sorted.{IsPermutation}
use Rattle.std.proofs.lemmas.List.Filters.{dedup_is}
use Rattle.go_mod.proofs.ListedLemmas.{sorted_files}
use Rattle.go_mod.proofs.listing.go_files.Goals as goal

pub returns : goal.returns
returns c = λ bytes.
    let is = dedup_is _ _ _ c.dedup.ensures.filtered in
    let moved = subst (λ (xs : List (List ℕ)). IsPermutation xs c.sort_unstable.new.self.items) c.in_ok-files.ensures c.sort_unstable.ensures.permutation in
    rw is (sorted_files c.args.paths.now c.sort_unstable.new.self.items moved c.sort_unstable.ensures.sorted bytes)
