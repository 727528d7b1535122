use Rattle.std.proofs.Common.{sym}
use Rattle.go_same.proofs.LayerLemmas.{all_same_heads-count}
use Rattle.go_same.proofs.layer.same_count.Goals as goal

pub returns : goal.returns
returns c = sym (all_same_heads-count c.args.homes c.args.ts.now c.args.us.now)
