use Rattle.std.proofs.Common.{arith, ap, ◌∙◌, []}
use Rattle.std.specs.Prelude.{replicate}
use Rattle.go_load.proofs.GroupLemmas.{group_more, group_none}
use Rattle.go_load.proofs.groups.groups.Goals as goal

pub loop-i-init : goal.loop-i-init
loop-i-init c =
    c.in_ok-files.ensures ∙ ap (λ n. replicate n []) c.requires.count ∙ group_none c.args.homes.now c.args.places.now

pub loop-i-preserved : goal.loop-i-preserved
loop-i-preserved c =
    group_more c.args.homes.now c.args.places.now c.loop-i.i c.index-homes-i.result c.loop-i.files.items c.add_file.new.files.items c.requires.ascending (omega arith) c.index-homes-i.is c.loop-i.invariant c.in_ok-add_file.ensures
