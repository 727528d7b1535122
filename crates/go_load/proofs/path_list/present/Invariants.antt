use Rattle.std.proofs.Common.{◌≡◌, take}
use Rattle.std.specs.List.{filter_map}
use Rattle.go_load.proofs.path_list.present.Given as goal

abbrev pub invariant-loop-home : goal.invariant-loop-home
invariant-loop-home l = l.paths.items ≡ filter_map (λ home. home) (take l.home-index l.homes)
