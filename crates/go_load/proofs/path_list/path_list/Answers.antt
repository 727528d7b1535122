use Rattle.std.proofs.Common.{List, ℕ, subst}
use Rattle.std.specs.List.Sorted.{IsPermutation}
use Rattle.std.proofs.lemmas.List.Filters.{dedup_is}
use Rattle.go_load.proofs.PathListLemmas.{sorted_paths}
use Rattle.go_load.proofs.path_list.path_list.Goals as goal

pub returns : goal.returns
returns c =
    let is = dedup_is _ _ _ c.dedup.ensures.filtered in
    let moved = subst (λ (xs : List (List ℕ)). IsPermutation xs c.sort_unstable.new.self.items) c.in_ok-paths.ensures c.sort_unstable.ensures.permutation in
    rw is (sorted_paths c.args.homes.now c.sort_unstable.new.self.items moved c.sort_unstable.ensures.sorted)
