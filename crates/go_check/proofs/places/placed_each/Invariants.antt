use Rattle.std.proofs.Common.{◌≡◌, map, nat_eq, take}
use Rattle.std.specs.Option.{option_copied}
use Rattle.indexmap.specs.IndexMap.{get}
use Rattle.go_base.specs.declared.rule.Broken.{Broken}
use Rattle.go_module.specs.Places.{placed_in}
use Rattle.go_check.specs.Lines.Sources.{source_of}
use Rattle.go_check.proofs.places.placed_each.Given as goal

-- the broken rules so far stand at their places
abbrev pub invariant-loop-broken : goal.invariant-loop-broken
invariant-loop-broken l =
    l.placed.items ≡ map (λ (b : Broken). placed_in (source_of l.stub (option_copied (get nat_eq l.table b.pos.file))) b) (take l.broken-index l.list)
