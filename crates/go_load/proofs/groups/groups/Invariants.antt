use Rattle.std.proofs.Common.{◌≡◌, map}
use Rattle.go_load.proofs.GroupLemmas.{files_below}
use Rattle.go_load.proofs.groups.groups.Given as goal

abbrev pub invariant-loop-i : goal.invariant-loop-i
invariant-loop-i l = l.files.items ≡ map (files_below l.homes l.i) l.places
