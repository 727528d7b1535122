use Rattle.std.proofs.Common.{refl, arith}
use Rattle.std.proofs.lemmas.List.{length-drop, take_rest}
use Rattle.go_load.proofs.PlaceLemmas.{run_more}
use Rattle.go_load.proofs.places.placed_among.Goals as goal

pub loop-start-preserved : goal.loop-start-preserved
loop-start-preserved c = record {
  within = omega (arith, length-drop c.loop-start.start c.args.list.now, c.run_length-count.ensures.within);
  all = run_more c.args.texts.now c.args.list.now c.loop-start.start _ c.run_length-count.result _ _ c.loop-start.placed.items c.add_run.new.placed.items _ (take_rest c.args.list.now c.loop-start.start) c.run_length-count.ensures.len refl c.in_ok-add_run.ensures c.loop-start.invariant.all;
}
