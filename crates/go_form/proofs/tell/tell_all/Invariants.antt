use Rattle.std.proofs.Common.{◌≡◌, ◌++◌, drop}
use Rattle.go_module.specs.Broken.{told}
use Rattle.go_form.proofs.tell.tell_all.Given as goal

abbrev pub invariant-loop-place : goal.invariant-loop-place
invariant-loop-place l =
    l.found.items ++ told l.file l.rule (drop l.place-index l.places) ≡ l.fn.found.items ++ told l.file l.rule l.places
