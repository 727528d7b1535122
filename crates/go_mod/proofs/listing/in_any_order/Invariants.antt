use Rattle.std.proofs.Common.{◌≡◌, take}
use Rattle.std.specs.Prelude.{filter}
use Rattle.go_mod.specs.Listing.{counts}
use Rattle.go_mod.proofs.listing.in_any_order.Given as goal

abbrev pub invariant-loop-path : goal.invariant-loop-path
invariant-loop-path l = l.files.items ≡ filter (counts l.paths) (take l.path-index l.paths)
