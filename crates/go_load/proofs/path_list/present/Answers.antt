use Rattle.std.proofs.Common.{arith}
use Rattle.go_load.proofs.PathListLemmas.{present_more}
use Rattle.go_load.proofs.path_list.present.Goals as goal

pub loop-home-preserved : goal.loop-home-preserved
loop-home-preserved c =
    present_more c.args.homes.now c.loop-home.home-index c.home-item.result c.loop-home.paths.items c.add_present.new.paths.items (omega arith) c.home-item.is c.loop-home.invariant c.in_ok-add_present.ensures
